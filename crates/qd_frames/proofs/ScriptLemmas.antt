-- What bytes spell is one script.
use Rattle.std.proofs.Common.{◌≡◌, ℕ, List, ◌++◌, refl, sym, ap, ◌∙◌}
use Rattle.qd_base.specs.Script.{Ending, Script, Turn}
use Rattle.qd_frames.specs.Frames.{Frames, asked, frames_spell}
use Rattle.qd_frames.proofs.FrameLemmas.{one_reading}
use Rattle.qd_frames.proofs.StepsLemmas.{has_steps}

pub some_script : (f : Frames) (more : List ℕ) → (s : Script) × frames_spell f more s
some_script f more =
    let h = has_steps f.start (f.waiting ++ more) in
    (record { turns = asked h.0; ending = h.1 }, (h.0, refl, h.2))

pub one_script : (f : Frames) (more : List ℕ) (s t : Script) → frames_spell f more s → frames_spell f more t → s ≡ t
one_script f more s t h k =
    let one = one_reading f.start (f.waiting ++ more) h.0 k.0 s.ending t.ending h.2 k.2 in
    let turns : s.turns ≡ t.turns = h.1 ∙ ap asked one.0 ∙ sym k.1 in
    ap (λ (x : List Turn). record { turns = x; ending = s.ending }) turns ∙ ap (λ (e : Ending). record { turns = t.turns; ending = e }) one.1
