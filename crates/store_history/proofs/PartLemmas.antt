-- Live versions have a part wherever a table of theirs has one.
use Rattle.std.proofs.Common.{◌≡◌, ℕ, ◌<◌, List, length, Option, Some, None, is_some, true, slice_get, get_or, refl, subst}
use Rattle.std.proofs.lemmas.Bool.{false≢true}
use Rattle.std.proofs.lemmas.Option.{slice_get-get_or}
use Rattle.qd_base.specs.declared.part.Part.{Part}
use Rattle.qd_catalog.specs.declared.version.Version.{Version}
use Rattle.qd_catalog.specs.Versions.{IsLive, Versions, version_at}
use Rattle.qd_manifest.specs.declared.shape.TableParts.{TableParts}
use Rattle.qd_manifest.specs.Spelling.{no_part}
use Rattle.qd_versions.specs.Reading.{IsPartAt}

-- a live row has a version
version_there : (o : Option Version) → is_some o ≡ true → (x : Version) × (o ≡ Some x)
version_there None live = absurd (false≢true live)
version_there (Some x) live = (x, refl)

-- a table of its tables, and a part of that, are there
pub part_there : (v : Versions) (row table i : ℕ) (shape : List TableParts) (t : TableParts) → IsLive v row → ((x : Version) → version_at v row ≡ Some x → shape ≡ x.shape) → slice_get shape table ≡ Some t → i < length t.parts
    → (t' : TableParts) × (p : Part) × IsPartAt v row table i t' p
part_there v row table i shape t live same has within =
    let (x, at) = version_there (version_at v row) live in
    let part = slice_get-get_or t.parts i no_part within in
    (t, get_or t.parts i no_part, record { version = x; live = at; its_table = subst (λ (s : List TableParts). slice_get s table ≡ Some t) (same x at) has; its_part = part })
