-- Where the bytes of a column break the layout: at the first byte of the first field that does, or at the length of the
-- file where bytes are missing. The main file comes before the second one.
use Rattle.std.specs.Prelude.{◌≡◌, ℕ, ◌+◌, ◌^◌, ◌<◌, ◌≤◌, List, [], ◌∷◌, ◌++◌, ◌⊎◌, length, All, IsSome}
use Rattle.std.specs.List.{flat_map}
use Rattle.byteorder.specs.Endian.{little_number}
use Rattle.qd_base.specs.declared.limits.TheConstants.{MAX_TEXT_BYTES}
use Rattle.qd_base.specs.declared.schema.ColType.{ColType}
use Rattle.qd_base.specs.declared.schema.ColType.TheVariants as kind
use Rattle.qd_base.specs.Dictionary.{id_in, AreDistinct}
use Rattle.qd_column_format.specs.Fields.{field_size, bytes_of_fields, named, end_of, Follows, AreFields}
use Rattle.qd_column_format.specs.Spelling.{stored_text, BeginsWith}

-- The main file is damaged at a place: behind fields of rows that keep the rules, bytes are missing for the next row, or
-- its field breaks the rules.
pub record IsMainDamage (k : ColType) (rows : ℕ) (main : List ℕ) (at : ℕ) : Type 0 where
  pub fields : List ℕ
  pub sound : AreFields k fields
  pub fewer : length fields < rows
  pub there : BeginsWith main (bytes_of_fields k fields)
  pub damage : ((length main < length (bytes_of_fields k fields) + field_size k) × (at ≡ length main)) ⊎ ((next : ℕ) × (next < 256 ^ field_size k) × BeginsWith main (bytes_of_fields k (fields ++ next ∷ [])) × (Follows k fields next → ⊥) × (at ≡ length (bytes_of_fields k fields)))

-- bytes that are no text behind its length, for want of bytes
abbrev pub IsCutText : List ℕ → Type 0
IsCutText rest = (length rest < 2) ⊎ (length rest < 2 + little_number 2 rest)

-- Bytes that are to hold some number of distinct texts are damaged at a place: behind fewer texts, bytes are missing for
-- the next one, or it repeats one of them.
pub record IsTextDamage (count : ℕ) (bytes : List ℕ) (at : ℕ) : Type 0 where
  pub texts : List (List ℕ)
  pub short : All (λ t. length t ≤ MAX_TEXT_BYTES) texts
  pub distinct : AreDistinct texts
  pub fewer : length texts < count
  pub rest : List ℕ
  pub there : bytes ≡ flat_map stored_text texts ++ rest
  pub damage : (IsCutText rest × (at ≡ length bytes)) ⊎ ((t : List ℕ) × (length t ≤ MAX_TEXT_BYTES) × BeginsWith rest (stored_text t) × IsSome (id_in texts t) × (at ≡ length (flat_map stored_text texts)))

-- the second file is damaged at a place, by the numbers of all rows
abbrev pub IsAuxDamageBy : ColType → List ℕ → List ℕ → ℕ → Type 0
IsAuxDamageBy kind.Symbol fields aux at = IsTextDamage (named fields) aux at
IsAuxDamageBy kind.Varchar fields aux at = (length aux < end_of fields) × (at ≡ length aux)
IsAuxDamageBy _ fields aux at = ⊥

-- the second file is damaged at a place, the main file holding all rows
pub record IsAuxDamage (k : ColType) (rows : ℕ) (main aux : List ℕ) (at : ℕ) : Type 0 where
  pub fields : List ℕ
  pub sound : AreFields k fields
  pub whole : length fields ≡ rows
  pub there : BeginsWith main (bytes_of_fields k fields)
  pub damage : IsAuxDamageBy k fields aux at

-- the files of a column of some rows are damaged at a place of a half: 0 is the main file, 1 the second one
abbrev pub IsDamage : ColType → ℕ → List ℕ → List ℕ → ℕ → ℕ → Type 0
IsDamage k rows main aux half at = ((half ≡ 0) × IsMainDamage k rows main at) ⊎ ((half ≡ 1) × IsAuxDamage k rows main aux at)
