-- What calls leave as it was, they leave so one after another; and counts of failures, one after another.
use Rattle.std.proofs.Common.{◌≡◌, ℕ, refl, ◌∙◌, subst}
use Rattle.std.specs.Prelude.{Result}
use Rattle.qd_io.specs.Ends.{Counts, InputStays, OutputStays, Stream}
use Rattle.qd_io.specs.declared.fault.IoFault.{IoFault}

pub input-stays-here : (a : Stream) → InputStays a a
input-stays-here a = record { input = refl; reads_failed = refl; input_lent = refl; output_lent = refl }

pub output-stays-here : (a : Stream) → OutputStays a a
output-stays-here a = record { output = refl; writes_failed = refl; input_lent = refl; output_lent = refl }

pub input-stays-on : (a b c : Stream) → InputStays a b → InputStays b c → InputStays a c
input-stays-on a b c h k = record {
  input = k.input ∙ h.input;
  reads_failed = k.reads_failed ∙ h.reads_failed;
  input_lent = k.input_lent ∙ h.input_lent;
  output_lent = k.output_lent ∙ h.output_lent;
}

-- a call behind others that left the count as it was
pub counts-later : {T : Type 0} (a b c : ℕ) (r : Result T IoFault) → b ≡ a → Counts b c r → Counts a c r
counts-later {T} a b c r e h = subst (λ (x : ℕ). Counts {T = T} x c r) e h
