-- What has a spelling is short enough for the fields of a manifest.
use Rattle.std.proofs.Common.{◌≡◌, ℕ, ◌^◌, ◌<◌, ◌≤◌, List, length, get_or, All, ap, subst, inl, inr, arith}
use Rattle.std.proofs.lemmas.List.{length-map, get_or-map}
use Rattle.std.proofs.lemmas.List.Elements.{All-weaker}
use Rattle.qd_base.specs.declared.schema.Col.{Col}
use Rattle.qd_base.specs.declared.schema.ColType.TheVariants as kind
use Rattle.qd_base.specs.declared.schema.Schema.{Schema}
use Rattle.qd_base.specs.Names.{IsColumnName, IsTableName}
use Rattle.qd_base.specs.Lawful.{IsSchema, AreSchemas}
use Rattle.qd_fields.specs.Spelling.{FitsColumn, FitsSchema}
use Rattle.qd_manifest.specs.declared.shape.TableParts.{TableParts}
use Rattle.qd_manifest.specs.declared.shape.Manifest.{Manifest}
use Rattle.qd_manifest.specs.Spelling.{IsPart, AreParts, schemas_in, IsManifest}
use Rattle.qd_manifest.specs.Writing.{FitsPart, FitsShape}
use Rattle.qd_manifest.proofs.SchemaLaws.{KeysFit, few_keys, place_within}

keys_small : (columns time : ℕ) (keys : List ℕ) → columns < 2 ^ 16 → KeysFit columns time keys → All (λ k. k < 2 ^ 16) keys
keys_small columns time keys few (inl none) = λ k d lt. absurd (omega (arith, ap length none))
keys_small columns time keys few (inr fit) = All-weaker (λ k. k < columns) (λ k. k < 2 ^ 16) (λ k lt. omega arith) keys fit.0

schema_fits : (s : Schema) → IsSchema s → FitsSchema s
schema_fits s h =
    let named : IsTableName s.name = h.name in
    let short : length s.name ≤ 127 = named.short in
    let few : length s.cols ≤ 256 = h.few in
    let placed : s.time_col < length s.cols = place_within (λ (c : Col). c.kind ≡ kind.Time) s.cols s.time_col h.designated in
    let keys : length s.keys ≤ length s.cols = few_keys (length s.cols) s.time_col s.keys h.keys in
    record {
      name = omega arith;
      columns = omega arith;
      each_column = All-weaker (λ (c : Col). IsColumnName c.name) FitsColumn (λ c n. (let size : length c.name ≤ 127 = n.short in omega arith)) s.cols h.names;
      time = omega arith;
      keys = omega arith;
      each_key = keys_small (length s.cols) s.time_col s.keys (omega arith) h.keys;
    }

pub shape_fits : (n : ℕ) (m : Manifest) → IsManifest n m → FitsShape m.shape
shape_fits n m h =
    let schemas : AreSchemas (schemas_in m.shape) = h.schemas in
    let few : length (schemas_in m.shape) ≤ 1024 = schemas.few in
    record {
      few = omega (arith, length-map m.shape (λ (t : TableParts). t.schema));
      each = λ k d lt.
          let sound : IsSchema (get_or m.shape k d).schema = subst IsSchema (get_or-map (λ (t : TableParts). t.schema) m.shape k d d.schema lt) (schemas.each k d.schema (omega (arith, length-map m.shape (λ (t : TableParts). t.schema)))) in
          let are : AreParts (get_or m.shape k d).schema (get_or m.shape k d).parts = h.parts k d lt in
          let wide : length (get_or m.shape k d).schema.cols ≤ 256 = sound.few in
          record {
            schema = schema_fits (get_or m.shape k d).schema sound;
            each_part = All-weaker (IsPart (get_or m.shape k d).schema) FitsPart (λ p is. (let most : p.cols ≤ length (get_or m.shape k d).schema.cols = is.columns in omega arith)) (get_or m.shape k d).parts are.each;
          };
    }
