use Rattle.std.proofs.Common.{List, ℕ, subst, sym, ◌<◌, All, get_or, inr, arith, Fits, w8}
use Rattle.std.proofs.lemmas.List.{get_or_default}
use Rattle.qd_base.specs.declared.schema.Schema.{Schema}
use Rattle.qd_base.specs.Lawful.{AreLawful}
use Rattle.qd_memory.proofs.tests.apply.Goals as goal

fits_byte : (n : ℕ) → Fits w8 n → n < 256
fits_byte n h = omega (arith, h)

pub apply-requires : goal.apply-requires
apply-requires c =
    let lines = c.args.lines.now in
    let known : All (λ b. b < 256) lines = λ k d lt. subst (λ b. b < 256) (get_or_default lines k 0 d lt) (fits_byte (get_or lines k 0) (c.shared_slice_known-1.given k)) in
    let bytes : All (λ b. b < 256) c.as_bytes.result.now = subst (All (λ b. b < 256)) (sym c.as_bytes.ensures.value) known in
    let kept = c.in-Ok.ensures.lawful c.as_bytes.result.now bytes c.in_ok-batch.ensures.reading in
    record { lawful = (subst (λ (s : List Schema). AreLawful s c.in-Ok.entry.ops) c.schemas.ensures.schemas kept.0.lawful, kept.1, inr kept.0.keys, tt) }
