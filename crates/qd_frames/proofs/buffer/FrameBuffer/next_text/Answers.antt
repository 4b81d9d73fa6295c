use Rattle.std.proofs.Common.{◌≡◌, ◌<◌, ◌++◌, length, ap, subst, sym, ◌∙◌, arith}
use Rattle.qd_frames.specs.Frames.{frame, IsUnfinished}
use Rattle.qd_frames.specs.Heads.{request_of}
use Rattle.qd_frames.specs.Buffer.{bytes_of, IsGathered}
use Rattle.qd_frames.proofs.BufferLemmas.{same_waiting, more_wanted, whole_taken}
use Rattle.qd_frames.proofs.buffer.FrameBuffer.next_text.Goals as goal

pub returns-then-len-text-clause-exact : goal.returns-then-len-text-clause-exact
returns-then-len-text-clause-exact c =
    let p = c.args.self.now.payload.items in
    let r = c.args.self.now.rest in
    let p' = c.gather.new.payload.items in
    let r' = c.gather.new.rest in
    let gathered = subst (λ o. IsGathered o p) c.requires.current c.requires.sound.gathered in
    let less : length p' < c.args.text.size = omega arith in (
      subst (λ o. IsUnfinished (bytes_of o p ++ r)) (sym c.requires.current) (more_wanted c.args.text p r p' r' gathered.1 less (c.in_ok-gather.ensures.ok less) c.gather.ensures.same),
      ap (λ w. record { waiting = w; start = c.args.self.now.start }) (same_waiting c.args.self.now.current p r p' r' c.gather.ensures.same),
    )

pub returns-clause-exact : goal.returns-clause-exact
returns-clause-exact c =
    let p = c.args.self.now.payload.items in
    let r = c.args.self.now.rest in
    let p' = c.gather.new.payload.items in
    let r' = c.gather.new.rest in
    let d = c.replace-bytes.new.dest.items in
    let gathered = subst (λ o. IsGathered o p) c.requires.current c.requires.sound.gathered in
    let whole : length p' ≡ c.args.text.size = omega arith in
    let bytes = c.from_vec.ensures.same ∙ ap (λ v. v.items) c.replace-bytes.ensures.value in
    let none = ap (λ v. v.items) c.replace-bytes.ensures.after ∙ c.new.ensures.items in
    let h = whole_taken c.args.text p r p' r' d c.request.result c.args.self.now.start gathered.1 gathered.2 whole (c.request.ensures ∙ ap (λ t. request_of c.args.text.kind t) bytes) none c.gather.ensures.same in
    (h.0, subst (λ o. bytes_of o p ++ r ≡ frame c.request.result ++ (d ++ r')) (sym c.requires.current) h.1, h.2)
