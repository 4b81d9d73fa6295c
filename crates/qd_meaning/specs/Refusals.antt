-- Which refusal of a statement is answered, where several apply.
use Rattle.std.specs.Prelude.{ℕ, Bool, ◌&&◌, ◌||◌, ◌==◌, nat_lt, nat_le, if◌then◌else◌, List, [], ◌∷◌, Option, Some, None, Result, Ok, Err}
use Rattle.qd_base.specs.declared.code.Code.{Code}
use Rattle.qd_base.specs.declared.code.Code.TheVariants as code
use Rattle.qd_meaning.specs.declared.refusal.Refusal.{Refusal}

abbrev pub at : Code → ℕ → List Refusal
at why place = record { code = why; place = place } ∷ []

-- a refusal where a test fails
abbrev pub unless : Bool → Code → ℕ → List Refusal
unless holds why place = if holds then [] else at why place

-- The order of codes: syntax and numbers; names of tables and columns; keys; types; times; texts; and what the rows alone show.
abbrev pub rank : Code → ℕ
rank code.NotBuilt = 1
rank code.SqlSyntax = 2
rank code.NumberRange = 3
rank code.Name = 4
rank code.UnknownTable = 5
rank code.TableExists = 6
rank code.Tables = 7
rank code.Columns = 8
rank code.DuplicateColumn = 9
rank code.UnknownColumn = 10
rank code.Ambiguous = 11
rank code.Keys = 12
rank code.Types = 13
rank code.TimeLiteral = 14
rank code.TextTooLong = 15
rank code.TooManyBuckets = 16
rank code.ResultTooLarge = 17
rank _ = 18

-- by the order of codes, then by place
abbrev pub goes_first : Refusal → Refusal → Bool
goes_first a b = nat_lt (rank a.code) (rank b.code) || (rank a.code == rank b.code && nat_le a.place b.place)

abbrev pub lesser : Refusal → Option Refusal → Refusal
lesser r None = r
lesser r (Some s) = if goes_first r s then r else s

-- the least of some refusals: the one that is answered
abbrev pub least : List Refusal → Option Refusal
least [] = None
least (r ∷ rs) = Some (lesser r (least rs))

-- what is answered where these refusals apply: the least of them, or what stands without any
abbrev pub judged : {A : Type 0} → Option Refusal → A → Result A Refusal
judged None answer = Ok answer
judged (Some r) answer = Err r

-- the one of two answers that goes first, where the first is of what stands before in a list
abbrev pub sooner : Option Refusal → Option Refusal → Option Refusal
sooner None o = o
sooner (Some r) o = Some (lesser r o)
