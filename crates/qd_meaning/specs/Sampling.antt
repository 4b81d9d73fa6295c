-- The parts of SAMPLE BY: its fills and its alignment, and where they are refused.
use Rattle.std.specs.Prelude.{ℕ, ◌+◌, ◌-◌, ◌*◌, ◌==◌, nat_le, Bool, true, false, ◌&&◌, ◌||◌, if◌then◌else◌, List, [], ◌∷◌, ◌++◌, map, length, is_some, Option, Some, None, ℤ, pos, neg_ℤ}
use Rattle.std.specs.List.{list_all, flat_map, zip}
use Rattle.qd_base.specs.declared.code.Code.TheVariants as code
use Rattle.qd_base.specs.declared.schema.ColType.{ColType}
use Rattle.qd_base.specs.declared.schema.ColType.TheVariants as kind
use Rattle.qd_sql_ast.specs.declared.tree.FillWith.{FillWith}
use Rattle.qd_sql_ast.specs.declared.tree.FillWith.TheVariants as given
use Rattle.qd_sql_ast.specs.declared.tree.Fills.{Fills}
use Rattle.qd_sql_ast.specs.declared.tree.AlignTo.{AlignTo}
use Rattle.qd_sql_ast.specs.declared.tree.AlignTo.TheVariants as align
use Rattle.qd_sql_ast.specs.declared.tree.Sampled.{Sampled}
use Rattle.qd_meaning.specs.declared.parts.Agg.{Agg}
use Rattle.qd_meaning.specs.declared.parts.Fill.{Fill}
use Rattle.qd_meaning.specs.declared.parts.Fill.TheVariants as fill
use Rattle.qd_meaning.specs.declared.parts.SampleSpec.{SampleSpec}
use Rattle.qd_value.specs.declared.bound.Bound.{Bound}
use Rattle.qd_meaning.specs.declared.refusal.Refusal.{Refusal}
use Rattle.qd_meaning.specs.Refusals.{at, unless}

-- ---- fills

abbrev pub fill_of : FillWith → Fill
fill_of (given.Nothing place) = fill.Skip
fill_of (given.Null place) = fill.Null
fill_of (given.Prev place) = fill.Prev
fill_of (given.Number n) = fill.Number (pos n.value)
fill_of (given.Minus minus n) = fill.Number (neg_ℤ (pos n.value))

-- without FILL nothing is filled
abbrev pub fills_of : Option Fills → List Fill
fills_of None = fill.Skip ∷ []
fills_of (Some f) = map fill_of f.fills

abbrev pub is_long : ColType → Bool
is_long kind.Long = true
is_long _ = false

-- NONE stands alone
abbrev pub none_faults : FillWith → List Refusal
none_faults (given.Nothing place) = at code.Types place
none_faults _ = []

-- a number fills aggregates of numbers
abbrev pub number_faults : FillWith → List ColType → List Refusal
number_faults (given.Number n) kinds = unless (list_all is_long kinds) code.Types n.at
number_faults (given.Minus minus n) kinds = unless (list_all is_long kinds) code.Types minus
number_faults _ kinds = []

abbrev pub list_faults : List FillWith → List ColType → List Refusal
list_faults (f ∷ []) kinds = number_faults f kinds
list_faults fills kinds = flat_map none_faults fills ++ flat_map (λ x. number_faults x.0 (x.1 ∷ [])) (zip fills kinds)

-- one fill for all aggregates, or one for each
abbrev pub fills_faults : Option Fills → List ColType → List Refusal
fills_faults None kinds = []
fills_faults (Some f) kinds = unless (length f.fills == 1 || length f.fills == length kinds) code.Types f.at ++ list_faults f.fills kinds

-- ---- the offset of the calendar

abbrev pub is_digit : ℕ → Bool
is_digit b = nat_le 48 b && nat_le b 57

abbrev pub two_digits : ℕ → ℕ → ℕ
two_digits a b = (a - 48) * 10 + (b - 48)

-- `hh:mm`, up to 23:59, as minutes
abbrev pub minutes_of : List ℕ → Option ℕ
minutes_of (a ∷ b ∷ c ∷ d ∷ e ∷ []) =
    if is_digit a && is_digit b && c == 58 && is_digit d && is_digit e && nat_le (two_digits a b) 23 && nat_le (two_digits d e) 59 then Some (two_digits a b * 60 + two_digits d e)
    else None
minutes_of _ = None

abbrev pub behind : Option ℕ → Option ℤ
behind None = None
behind (Some n) = Some (pos n)

abbrev pub before : Option ℕ → Option ℤ
before None = None
before (Some n) = Some (neg_ℤ (pos n))

-- `hh:mm`, `+hh:mm` or `-hh:mm`
abbrev pub offset_of_text : List ℕ → Option ℤ
offset_of_text [] = None
offset_of_text (b ∷ bs) = if b == 43 then behind (minutes_of bs) else if b == 45 then before (minutes_of bs) else behind (minutes_of (b ∷ bs))

abbrev pub or_none : Option ℤ → Option ℤ
or_none None = Some (pos 0)
or_none (Some minutes) = Some minutes

abbrev pub offset_by : AlignTo → Option ℤ
offset_by (align.Calendar None) = Some (pos 0)
offset_by (align.Calendar (Some t)) = or_none (offset_of_text t.text)
offset_by align.First = None

-- without ALIGN buckets begin on the calendar, at no offset
abbrev pub offset_of : Option AlignTo → Option ℤ
offset_of None = Some (pos 0)
offset_of (Some a) = offset_by a

abbrev pub align_faults : Option AlignTo → List Refusal
align_faults (Some (align.Calendar (Some t))) = unless (is_some (offset_of_text t.text)) code.Types t.at
align_faults _ = []

-- ---- the whole

abbrev pub sample_spec : Sampled → List Bound → List Agg → SampleSpec
sample_spec s keys aggs = record {
  group = record { keys = keys; aggs = aggs };
  stride = record { n = s.stride.count; unit = s.stride.unit };
  offset = offset_of s.align;
  fills = fills_of s.fills;
}

-- SAMPLE BY is of aggregates; the types are theirs
abbrev pub sample_faults : Sampled → List ColType → List Refusal
sample_faults s kinds = unless (nat_le 1 (length kinds)) code.Keys s.at ++ fills_faults s.fills kinds ++ align_faults s.align
