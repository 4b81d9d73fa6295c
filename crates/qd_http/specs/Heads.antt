-- The heads that are read: those of the grammar of `httparse` (RFC 9112, sections 2 to 5), within limits, and where one ends.
use Rattle.std.specs.Prelude.{◌≡◌, ◌≢◌, ℕ, ◌≤◌, List, ◌∷◌, ◌++◌, length}
use Rattle.httparse.specs.Grammar.{LineEnd, print_end, RequestHead, print_request, ReadsRequest}
use Rattle.qd_http.specs.declared.limits.TheConstants.{MAX_FIELDS, MAX_HEAD_BYTES}

-- a line with these bytes isn't empty: one of them is neither CR nor LF
pub record HasContent (bytes : List ℕ) : Type 0 where
  pub before : List ℕ
  pub byte : ℕ
  pub after : List ℕ
  pub is : bytes ≡ before ++ byte ∷ after
  pub no_return : byte ≢ 13
  pub no_feed : byte ≢ 10

-- An empty line stands behind a line that isn't empty. So a head ends: what comes before its first line with content is
-- passed over (RFC 9112, section 2.2).
pub record HasEmptyLine (bytes : List ℕ) : Type 0 where
  pub lines : List ℕ
  pub end : LineEnd
  pub after : List ℕ
  pub content : HasContent lines
  pub is : bytes ≡ lines ++ 10 ∷ (print_end end ++ after)

-- the bytes are this head, within the limits, and then the rest
pub record BeginsHead (bytes : List ℕ) (head : RequestHead) (rest : List ℕ) : Type 0 where
  pub reads : ReadsRequest bytes head rest
  pub short : length (print_request head) ≤ MAX_HEAD_BYTES
  pub few : length head.fields ≤ MAX_FIELDS

-- the bytes begin with no head within the limits
abbrev pub BeginsNoHead : List ℕ → Type 0
BeginsNoHead bytes = (head : RequestHead) (rest : List ℕ) → BeginsHead bytes head rest → ⊥
