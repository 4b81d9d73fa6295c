-- The numbers of the codes of refusals. They are this project's own.
use Rattle.std.specs.Prelude.{ℕ}
use Rattle.qd_base.specs.declared.code.Code.{Code}
use Rattle.qd_base.specs.declared.code.Code.TheVariants as code

-- a frame
abbrev pub number_of : Code → ℕ
number_of code.Frame = 1
-- a batch of lines, and some statements
number_of code.LineSyntax = 11
number_of code.FloatField = 12
number_of code.NumberRange = 13
number_of code.Name = 14
number_of code.TypeClash = 15
number_of code.TimeRange = 16
number_of code.Columns = 17
number_of code.Tables = 18
number_of code.DuplicateColumn = 19
number_of code.TextTooLong = 20
number_of code.TooManyCells = 21
-- a statement
number_of code.SqlSyntax = 31
number_of code.UnknownTable = 32
number_of code.UnknownColumn = 33
number_of code.Types = 34
number_of code.TableExists = 35
number_of code.Keys = 36
number_of code.TooManyBuckets = 37
number_of code.ResultTooLarge = 38
number_of code.TimeLiteral = 39
number_of code.NotBuilt = 40
number_of code.Ambiguous = 41
-- what stands behind a request
number_of code.Clock = 42
number_of code.NoWorker = 50
number_of code.Full = 51
number_of code.Volume = 52
number_of code.NoRow = 53
number_of code.Memory = 61
