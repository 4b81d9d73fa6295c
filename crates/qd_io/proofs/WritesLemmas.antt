-- A piece is written in several writes: what is in the output after some of them.
use Rattle.std.proofs.Common.{◌≡◌, ℕ, ◌+◌, ◌-◌, List, ◌++◌, length, take, drop, arith, append_assoc, ap, sym, ◌∙◌, subst}
use Rattle.std.specs.Prelude.{Option, None, Some, Ok}
use Rattle.std.proofs.Math.Seq.{take-add}
use Rattle.std.proofs.lemmas.List.{length-drop, take_all}
use Rattle.qd_io.specs.declared.fault.IoFault.{IoFault}
use Rattle.qd_io.specs.Ends.{Writes}

-- the first `done` of the bytes stand behind what a told output held
abbrev pub WroteFirst : Option (List ℕ) → Option (List ℕ) → List ℕ → ℕ → Type 0
WroteFirst None now bytes done = Unit {0}
WroteFirst (Some before) now bytes done = now ≡ Some (before ++ take done bytes)

-- what a slice from `done` on holds
pub take-rest : (bytes : List ℕ) (done : ℕ) → take (length bytes - done) (drop done bytes) ≡ drop done bytes
take-rest bytes done = take_all _ _ (omega (arith, length-drop done bytes))

-- a further write of n bytes of the rest
pub WroteFirst-more : (first middle last : Option (List ℕ)) (bytes : List ℕ) (done n : ℕ)
    → WroteFirst first middle bytes done → Writes {E = IoFault} middle last (drop done bytes) (Ok n) → WroteFirst first last bytes (done + n)
WroteFirst-more None middle last bytes done n before wrote = tt
WroteFirst-more (Some held) middle last bytes done n before wrote =
    let wrote' = subst (λ told. Writes {E = IoFault} told last (drop done bytes) (Ok n)) before wrote in
    wrote' ∙ ap Some (append_assoc held (take done bytes) (take n (drop done bytes)) ∙ ap (λ piece. held ++ piece) (sym (take-add done n bytes)))
