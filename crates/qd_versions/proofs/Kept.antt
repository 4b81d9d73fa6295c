-- What is known of version files stays through calls that change other files.
use Rattle.std.proofs.Common.{◌≡◌, ◌⊎◌, inl, inr, ℕ, Bool, false, List, sym, subst}
use Rattle.qd_volume.specs.Disk.{Disk, Image, images_since}
use Rattle.qd_durable.specs.Moments.{EachNow, LeavesOnly, Moves, SameBut}
use Rattle.qd_durable.proofs.Moved.{moments_have, now_has}
use Rattle.qd_txnfile.specs.declared.half.Half.{Half}
use Rattle.qd_txnfile.specs.declared.half.Half.TheVariants.{First, Second}
use Rattle.qd_txnfile.specs.declared.half.Other.{Other}
use Rattle.qd_txnfile.specs.declared.half.Other.TheVariants as other
use Rattle.qd_txnfile.specs.Versions.{GivesFrom, GivesVersion, HoldsVersion, IsClosed, IsOpenBelow, Version, file_of, limit_of, other_of}
use Rattle.qd_txnfile.specs.States.{GivesKnown, GivesOneOf, IsKnown, Knows, Root}
use Rattle.qd_txnfile.proofs.Steps.{known_given}

-- the version files of two images are the same
abbrev pub SameVersionFiles : Image → Image → Type 0
SameVersionFiles earlier image = (half : Half) → image (file_of half) ≡ earlier (file_of half)

pub files_same : (touched : ℕ → Bool) → touched 2 ≡ false → touched 3 ≡ false → (earlier image : Image) → SameBut touched earlier image → SameVersionFiles earlier image
files_same touched second third earlier image same First = same 2 second
files_same touched second third earlier image same Second = same 3 third

gives_from_kept : (half : Half) (v : Version) (earlier image : Image) → image (file_of half) ≡ earlier (file_of half) → image (file_of (other_of half)) ≡ earlier (file_of (other_of half)) → GivesFrom half v earlier → GivesFrom half v image
gives_from_kept half v earlier image here there gives = record {
  holds = subst (λ (l : List ℕ). HoldsVersion l v) (sym here) gives.holds;
  older = subst (λ (l : List ℕ). IsClosed l ⊎ IsOpenBelow (limit_of half v.n) l) (sym there) gives.older;
}

pub gives_kept : (v : Version) (earlier image : Image) → SameVersionFiles earlier image → GivesVersion v earlier → GivesVersion v image
gives_kept v earlier image same gives = (gives.0, gives_from_kept gives.0 v earlier image (same gives.0) (same (other_of gives.0)) gives.1)

one_kept : (current next : Version) (earlier image : Image) → SameVersionFiles earlier image → GivesOneOf current next earlier → GivesOneOf current next image
one_kept current next earlier image same (inl gives) = inl (gives_kept current earlier image same gives)
one_kept current next earlier image same (inr gives) = inr (gives_kept next earlier image same gives)

pub known_kept : (known : Other) (current next : Version) (earlier image : Image) → SameVersionFiles earlier image → GivesKnown known current next earlier → GivesKnown known current next image
known_kept other.Older current next earlier image same gives = gives_kept current earlier image same gives
known_kept other.Closed current next earlier image same gives = gives_kept current earlier image same gives
known_kept (other.Written n) current next earlier image same gives = gives_kept current earlier image same gives
known_kept (other.Opening n) current next earlier image same gives = one_kept current next earlier image same gives

module _ (touched : ℕ → Bool) (second : touched 2 ≡ false) (third : touched 3 ≡ false) (before after : Disk) (moves : Moves (SameBut touched) before after) where
  pub knows_kept : (root : Root) (current next : Version) → Knows root current next before → Knows root current next after
  knows_kept root current next knows = record {
    number = knows.number;
    follows = knows.follows;
    holds = now_has (SameBut touched) (λ image. HoldsVersion (image (file_of root.current)) current) (λ image. HoldsVersion (image (file_of root.current)) current) before after moves knows.holds
        (λ earlier image holds same. subst (λ (l : List ℕ). HoldsVersion l current) (sym (files_same touched second third earlier image same root.current)) holds);
    known = now_has (SameBut touched) (λ image. IsKnown root.other (limit_of root.current current.n) next (image (file_of (other_of root.current)))) (λ image. IsKnown root.other (limit_of root.current current.n) next (image (file_of (other_of root.current)))) before after moves knows.known
        (λ earlier image known same. subst (λ (l : List ℕ). IsKnown root.other (limit_of root.current current.n) next l) (sym (files_same touched second third earlier image same (other_of root.current))) known);
  }

  pub given_kept : (root : Root) (current next : Version) → Knows root current next before → LeavesOnly before after (GivesKnown root.other current next)
  given_kept root current next knows =
      moments_have (SameBut touched) (GivesKnown root.other current next) (GivesKnown root.other current next) before after moves (known_given root current next before knows)
      (λ earlier image gives same. known_kept root.other current next earlier image (files_same touched second third earlier image same) gives)

  pub version_kept : (v : Version) → EachNow before (GivesVersion v) → LeavesOnly before after (GivesVersion v)
  version_kept v gives =
      moments_have (SameBut touched) (GivesVersion v) (GivesVersion v) before after moves gives
      (λ earlier image given same. gives_kept v earlier image (files_same touched second third earlier image same) given)

-- two facts of what a call leaves
pub leaves_and : (P Q : Image → Type 0) (before after : Disk) → LeavesOnly before after P → LeavesOnly before after Q → LeavesOnly before after (λ image. P image × Q image)
leaves_and P Q before after p q = record {
  later = p.later;
  each = λ image since. (p.each image since, q.each image since);
  joined = λ start image le since. by start image (p.joined start image le since) (q.joined start image le since);
}
  where
    by : (start : ℕ) (image : Image) → images_since before start image ⊎ P image → images_since before start image ⊎ Q image → images_since before start image ⊎ (P image × Q image)
    by start image (inl earlier) other = inl earlier
    by start image (inr p) (inl earlier) = inl earlier
    by start image (inr p) (inr q) = inr (p, q)
