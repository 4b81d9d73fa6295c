-- What bytes begin with: the header of a frame, or a prefix of one, or none. It is this project's own.
use Rattle.std.specs.Prelude.{◌≡◌, ◌≢◌, ℕ, ◌+◌, ◌≤◌, List, [], ◌∷◌, ◌++◌, length}
use Rattle.std.specs.Fmt.{decimal}
use Rattle.qd_base.specs.declared.limits.TheConstants.{MAX_QUERY_BYTES, MAX_WRITE_BYTES}
use Rattle.qd_base.specs.declared.request.Request.{Request}
use Rattle.qd_base.specs.declared.request.Request.TheVariants as request
use Rattle.qd_frames.specs.declared.head.Kind.{Kind}
use Rattle.qd_frames.specs.declared.head.Kind.TheVariants as kind
use Rattle.qd_frames.specs.declared.head.Head.{Head}
use Rattle.qd_frames.specs.declared.head.Head.TheVariants as head
use Rattle.qd_frames.specs.declared.head.Number.{Number}
use Rattle.qd_frames.specs.declared.head.Number.TheVariants as number
use Rattle.qd_frames.specs.Frames.{frame, IsUnfinished, BeginsNone}

-- the letter that a text's frame begins with
abbrev pub letter : Kind → ℕ
letter kind.Write = 87
letter kind.Sql = 81

-- the greatest length of a text
abbrev pub limit : Kind → ℕ
limit kind.Write = MAX_WRITE_BYTES
limit kind.Sql = MAX_QUERY_BYTES

-- what stands before a text of n bytes
abbrev pub header : Kind → ℕ → List ℕ
header k n = letter k ∷ 32 ∷ (decimal n ++ 10 ∷ [])

-- the request that a text is
abbrev pub request_of : Kind → List ℕ → Request
request_of kind.Write text = request.Write text
request_of kind.Sql text = request.Sql text

-- The bytes begin with a number that is at most `most` and LF; or they are a prefix of such a number; or they begin with
-- no such number and LF, however they go on.
abbrev pub ReadsNumber : (most : ℕ) → List ℕ → Number → Type 0
ReadsNumber most bytes (number.Whole n taken) = (rest : List ℕ) × (n ≤ most) × (bytes ≡ decimal n ++ 10 ∷ rest) × (taken ≡ length (decimal n) + 1)
ReadsNumber most bytes number.Short = (n : ℕ) × (more : List ℕ) × (n ≤ most) × (decimal n ≡ bytes ++ more)
ReadsNumber most bytes number.Wrong = (n : ℕ) (more tail : List ℕ) → n ≤ most → bytes ++ more ≢ decimal n ++ 10 ∷ tail

-- LF comes first, or there is nothing, or another byte
abbrev pub ReadsLineEnd : List ℕ → Head → Head → Type 0
ReadsLineEnd [] whole found = found ≡ head.Short
ReadsLineEnd (b ∷ bytes) whole found = (b ≡ 10 → found ≡ whole) × (b ≢ 10 → found ≡ head.Wrong)

-- what bytes begin with
abbrev pub ReadsHead : List ℕ → Head → Type 0
ReadsHead bytes head.Short = IsUnfinished bytes
ReadsHead bytes head.Wrong = BeginsNone bytes
ReadsHead bytes head.Apply = (rest : List ℕ) × (bytes ≡ frame request.Apply ++ rest)
ReadsHead bytes head.End = (rest : List ℕ) × (bytes ≡ frame request.End ++ rest)
ReadsHead bytes (head.Text text) = (rest : List ℕ) × (text.size ≤ limit text.kind) × (bytes ≡ header text.kind text.size ++ rest) × (text.head ≡ length (header text.kind text.size))
