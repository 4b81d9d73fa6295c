-- What each call makes of a told volume, from what its writes make of it.
use Rattle.std.proofs.Common.{◌≡◌, inl, ℕ, ◌+◌, ◌^◌, ◌<◌, true, List, [], ◌∷◌, ◌++◌, length, take, drop, Result, Ok, Err, refl, ◌∙◌, ap, subst, arith, length-append}
use Rattle.std.specs.Int.{to_le_bytes, w64}
use Rattle.std.proofs.lemmas.List.{append_assoc, take_all}
use Rattle.qd_volume.specs.Disk.{Disk, Image, images_now}
use Rattle.qd_durable.specs.Places.{StandsAt}
use Rattle.qd_durable.specs.Moments.{EachNow, LeavesOnly, SameBut, SameOutside, Touches}
use Rattle.qd_durable.specs.Writing.{Overwrites}
use Rattle.qd_durable.proofs.Moved.{but_both, but_same, leaves_both, leaves_still, moments_have, moves_both, moves_still, moves_weaker, now_has, outside_but}
use Rattle.qd_txnfile.specs.declared.half.Half.{Half}
use Rattle.qd_txnfile.specs.declared.half.Half.TheVariants.{First, Second}
use Rattle.qd_txnfile.specs.declared.half.Other.{Other}
use Rattle.qd_txnfile.specs.declared.half.Other.TheVariants as other
use Rattle.qd_txnfile.specs.Versions.{GivesVersion, HoldsVersion, Version, body, file_of, is_version_file, limit_of, other_of}
use Rattle.qd_txnfile.specs.States.{GivesKnown, GivesOneOf, HasNext, IsDirty, IsKnown, IsNext, Knows, Root, with_next, with_opening, with_other}
use Rattle.qd_txnfile.specs.Calls.{ChangesVersionFiles, Closes, Creates, Flips, Repairs, WritesBody}
use Rattle.qd_txnfile.proofs.Files.{behind_gate, number_long, number_of_body, with_gate}
use Rattle.qd_txnfile.proofs.Images.{AreKnown, closed_step, current_kept, gives_known, known_closed, older_step, opening_step, written_step, zero_closed}

-- a root with this known of the other file
abbrev pub root_of : Half → ℕ → Other → Root
root_of half n known = record { current = half; n = n; other = known }

-- a file of the two
is_file : (half : Half) → is_version_file (file_of half) ≡ true
is_file First = refl
is_file Second = refl

-- a write to one of the two files changes no others
pub elsewhere_of : (half : Half) (at size : ℕ) (before after : Disk) → Touches (file_of half) at size before after → ChangesVersionFiles before after
elsewhere_of half at size before after touches =
    moves_weaker (SameOutside (file_of half) at size) (SameBut is_version_file) before after (outside_but is_version_file (file_of half) at size (is_file half)) touches

pub elsewhere_both : (a b c : Disk) → ChangesVersionFiles a b → ChangesVersionFiles b c → ChangesVersionFiles a c
elsewhere_both a b c first second = moves_both (SameBut is_version_file) (SameBut is_version_file) (SameBut is_version_file) a b c (λ x y r. r) (but_both is_version_file) first second

pub elsewhere_still : (disk : Disk) → ChangesVersionFiles disk disk
elsewhere_still disk = moves_still (SameBut is_version_file) disk (but_same is_version_file)

-- what is known of both files in each image
each_known : (half : Half) (n : ℕ) (known : Other) (current next : Version) (disk : Disk) → Knows (root_of half n known) current next disk → EachNow disk (AreKnown half known current next)
each_known half n known current next disk knows image now = (knows.holds image now, knows.known image now)

known_by : (half : Half) (n : ℕ) (known : Other) (current next : Version) (disk : Disk) → n ≡ current.n → HasNext known current next → EachNow disk (AreKnown half known current next) → Knows (root_of half n known) current next disk
known_by half n known current next disk number follows each = record {
  number = number;
  follows = follows;
  holds = λ image now. (each image now).0;
  known = λ image now. (each image now).1;
}

-- what is known, each image gives
pub known_given : (root : Root) (current next : Version) (disk : Disk) → Knows root current next disk → EachNow disk (GivesKnown root.other current next)
known_given root current next disk knows image now = gives_known root.current root.other current next image knows.follows (knows.holds image now, knows.known image now)

-- from what is known before a write to what is known of it
module _ (half : Half) (at size : ℕ) (before after : Disk) (touches : Touches (file_of (other_of half)) at size before after) (had knows : Other) (current last next : Version)
    (step : (earlier image : Image) → AreKnown half had current last earlier → SameOutside (file_of (other_of half)) at size earlier image → AreKnown half knows current next image)
  where
    pub known_now : EachNow before (AreKnown half had current last) → EachNow after (AreKnown half knows current next)
    known_now each = now_has (SameOutside (file_of (other_of half)) at size) (AreKnown half had current last) (AreKnown half knows current next) before after touches each step

    pub given_moments : HasNext knows current next → EachNow before (AreKnown half had current last) → LeavesOnly before after (GivesKnown knows current next)
    given_moments follows each = moments_have (SameOutside (file_of (other_of half)) at size) (AreKnown half had current last) (GivesKnown knows current next) before after touches each
        (λ earlier image are same. gives_known half knows current next image follows (step earlier image are same))

-- the current file stays whatever is written into the other one
current_now : (half : Half) (at size : ℕ) (before after : Disk) (v : Version) → Touches (file_of (other_of half)) at size before after → EachNow before (λ image. HoldsVersion (image (file_of half)) v) → EachNow after (λ image. HoldsVersion (image (file_of half)) v)
current_now half at size before after v touches each =
    now_has (SameOutside (file_of (other_of half)) at size) (λ image. HoldsVersion (image (file_of half)) v) (λ image. HoldsVersion (image (file_of half)) v) before after touches each
    (λ earlier image holds same. current_kept half v at size earlier image same holds)

-- closing the gate of an older version
module _ {T E : Type 0} (half : Half) (n : ℕ) (before after : Disk) where
  pub closes_failed : (fault : E) → Overwrites {T = T} {E = E} (Err fault) (file_of (other_of half)) 0 (0 ∷ []) before after → Closes (root_of half n other.Older) (root_of half n other.Older) before after
  closes_failed fault wrote = record {
    any_moment = λ current last knows. given_moments half 0 1 before after wrote.touches other.Older other.Older current last last (older_step half current last last) tt (each_known half n other.Older current last before knows);
    known = λ current last next knows. known_by half n other.Older current next after knows.number tt
        (known_now half 0 1 before after wrote.touches other.Older other.Older current last next (older_step half current last next) (each_known half n other.Older current last before knows));
    elsewhere = elsewhere_of (other_of half) 0 1 before after wrote.touches;
  }

  pub closes_done : (done : T) → Overwrites {T = T} {E = E} (Ok done) (file_of (other_of half)) 0 (0 ∷ []) before after → Closes (root_of half n other.Older) (root_of half n other.Closed) before after
  closes_done done wrote = record {
    any_moment = λ current last knows. given_moments half 0 1 before after wrote.touches other.Older other.Older current last last (older_step half current last last) tt (each_known half n other.Older current last before knows);
    known = λ current last next knows. record {
      number = knows.number;
      follows = tt;
      holds = current_now half 0 1 before after current wrote.touches knows.holds;
      known = λ image now. zero_closed (image (file_of (other_of half))) (wrote.durable image now);
    };
    elsewhere = elsewhere_of (other_of half) 0 1 before after wrote.touches;
  }

-- a gate that is closed
pub closes_none : (half : Half) (n : ℕ) (known : Other) (disk : Disk) → (IsDirty known → ⊥) → (known ≡ other.Older → ⊥) → Closes (root_of half n known) (root_of half n other.Closed) disk disk
closes_none half n known disk clean not = record {
  any_moment = λ current last knows. leaves_still (GivesVersion current) disk (given current last knows);
  known = λ current last next knows. record {
    number = knows.number;
    follows = tt;
    holds = knows.holds;
    known = λ image now. known_closed known (limit_of half current.n) last (image (file_of (other_of half))) clean not (knows.known image now);
  };
  elsewhere = elsewhere_still disk;
}
  where
    given : (current last : Version) → Knows (root_of half n known) current last disk → (image : Image) → images_now disk image → GivesVersion current image
    given current last knows image now = (half, record { holds = knows.holds image now; older = inl (known_closed known (limit_of half current.n) last (image (file_of (other_of half))) clean not (knows.known image now)) })

-- the bytes of a version's body, written in two pieces
pub body_pieces : (next : Version) (front : List ℕ) → front ≡ to_le_bytes w64 next.n ++ to_le_bytes w64 (length next.manifest) → front ++ next.manifest ≡ body next
body_pieces next front is = ap (λ (l : List ℕ). l ++ next.manifest) is ∙ append_assoc (to_le_bytes w64 next.n) (to_le_bytes w64 (length next.manifest)) next.manifest

-- a version written behind a closed gate
module _ {T E : Type 0} (half : Half) (n : ℕ) (next : Version) (bytes : List ℕ) (is : bytes ≡ body next) (number : next.n < 2 ^ 64) (size : length next.manifest < 2 ^ 64) (newer : n < next.n) (before mid after : Disk) (old : Other)
    (closes : Closes (root_of half n old) (root_of half n other.Closed) before mid)
  where
    -- the current version at each moment of the second write too
    moments : {R : Result T E} → Overwrites {T = T} {E = E} R (file_of (other_of half)) 1 bytes mid after → (current last : Version) → Knows (root_of half n old) current last before → LeavesOnly before after (GivesVersion current)
    moments wrote current last knows =
        leaves_both before mid after (GivesVersion current) (closes.any_moment current last knows)
        (given_moments half 1 (length bytes) mid after wrote.touches other.Closed other.Closed current last last (closed_step half (length bytes) current last last) tt
        (each_known half n other.Closed current last mid (closes.known current last last knows)))

    both_elsewhere : {R : Result T E} → Overwrites {T = T} {E = E} R (file_of (other_of half)) 1 bytes mid after → ChangesVersionFiles before after
    both_elsewhere wrote = elsewhere_both before mid after closes.elsewhere (elsewhere_of (other_of half) 1 (length bytes) mid after wrote.touches)

    -- the gate is closed whatever was written
    closed_now : {R : Result T E} → Overwrites {T = T} {E = E} R (file_of (other_of half)) 1 bytes mid after → (current last : Version) → Knows (root_of half n old) current last before → EachNow after (AreKnown half other.Closed current next)
    closed_now wrote current last knows =
        known_now half 1 (length bytes) mid after wrote.touches other.Closed other.Closed current last next (closed_step half (length bytes) current last next)
        (each_known half n other.Closed current last mid (closes.known current last last knows))

    pub body_failed : (fault : E) → Overwrites {T = T} {E = E} (Err fault) (file_of (other_of half)) 1 bytes mid after → WritesBody (root_of half n old) (root_of half n other.Closed) next before after
    body_failed fault wrote = record {
      any_moment = moments {R = Err fault} wrote;
      known = λ current last knows. known_by half n other.Closed current next after knows.number tt (closed_now {R = Err fault} wrote current last knows);
      elsewhere = both_elsewhere {R = Err fault} wrote;
    }

    pub body_done : (done : T) → Overwrites {T = T} {E = E} (Ok done) (file_of (other_of half)) 1 bytes mid after → WritesBody (root_of half n old) (root_of half n (other.Written next.n)) next before after
    body_done done wrote = record {
      any_moment = moments {R = Ok done} wrote;
      known = λ current last knows. known_by half n (other.Written next.n) current next after knows.number
          (record { is = refl; number = number; size = size; newer = omega (arith, knows.number, newer) })
          (λ image now. let are = closed_now {R = Ok done} wrote current last knows image now in
          (are.0, (are.1, subst (λ (l : List ℕ). StandsAt (image (file_of (other_of half))) 1 l) is (wrote.durable image now))));
      elsewhere = both_elsewhere {R = Ok done} wrote;
    }

-- the older gate wasn't closed
pub body_not_begun : (half : Half) (n : ℕ) (next : Version) (before after : Disk) → Closes (root_of half n other.Older) (root_of half n other.Older) before after → WritesBody (root_of half n other.Older) (root_of half n other.Older) next before after
body_not_begun half n next before after closes = record {
  any_moment = closes.any_moment;
  known = λ current last knows. closes.known current last next knows;
  elsewhere = closes.elsewhere;
}

abbrev pub written_root : Half → ℕ → ℕ → Root
written_root half n next_n = root_of half n (other.Written next_n)

-- the next version is the current one, once its gate is open
module _ (next_n : ℕ) where
  turned : (half : Half) (current next later : Version) (image : Image) → IsNext next_n current next → HoldsVersion (image (file_of half)) current → StandsAt (image (file_of (other_of half))) 1 (body next) → StandsAt (image (file_of (other_of half))) 0 (1 ∷ []) → AreKnown (other_of half) other.Older next later image
  turned half current next later image is holds behind gate = by half holds behind gate
    where
      older : (limit : ℕ) (bytes : List ℕ) → current.n < limit → HoldsVersion bytes current → IsKnown other.Older limit later bytes
      older limit bytes below has = (current.n, has.number, below, number_of_body bytes current (behind_gate bytes (body current) has.open_gate))

      has_next : (bytes : List ℕ) → StandsAt bytes 1 (body next) → StandsAt bytes 0 (1 ∷ []) → HoldsVersion bytes next
      has_next bytes behind gate = record { number = is.number; size = is.size; open_gate = with_gate bytes (body next) gate behind }

      by : (half : Half) → HoldsVersion (image (file_of half)) current → StandsAt (image (file_of (other_of half))) 1 (body next) → StandsAt (image (file_of (other_of half))) 0 (1 ∷ []) → AreKnown (other_of half) other.Older next later image
      by First holds behind gate = (has_next (image 3) behind gate, older next.n (image 2) is.newer holds)
      by Second holds behind gate = (has_next (image 2) behind gate, older (next.n + 1) (image 3) (omega (arith, is.newer)) holds)

-- opening the gate of the next version
module _ {T E : Type 0} (half : Half) (n next_n : ℕ) (before after : Disk) where
  flip_moments : {R : Result T E} → Overwrites {T = T} {E = E} R (file_of (other_of half)) 0 (1 ∷ []) before after → (current next : Version) → Knows (written_root half n next_n) current next before → LeavesOnly before after (GivesOneOf current next)
  flip_moments wrote current next knows =
      given_moments half 0 1 before after wrote.touches (other.Written next_n) (other.Opening next_n) current next next (written_step half next_n current next) knows.follows (each_known half n (other.Written next_n) current next before knows)

  flip_known : {R : Result T E} → Overwrites {T = T} {E = E} R (file_of (other_of half)) 0 (1 ∷ []) before after → (current next : Version) → Knows (written_root half n next_n) current next before → EachNow after (AreKnown half (other.Opening next_n) current next)
  flip_known wrote current next knows =
      known_now half 0 1 before after wrote.touches (other.Written next_n) (other.Opening next_n) current next next (written_step half next_n current next) (each_known half n (other.Written next_n) current next before knows)

  pub flip_failed : (fault answer : E) → Overwrites {T = T} {E = E} (Err fault) (file_of (other_of half)) 0 (1 ∷ []) before after → Flips {T = T} {E = E} (Err answer) (written_root half n next_n) (with_opening (written_root half n next_n)) before after
  flip_failed fault answer wrote = record {
    any_moment = flip_moments {R = Err fault} wrote;
    behind = λ current next knows. known_by half n (other.Opening next_n) current next after knows.number knows.follows (flip_known {R = Err fault} wrote current next knows);
    elsewhere = elsewhere_of (other_of half) 0 1 before after wrote.touches;
  }

  pub flip_done : (done : T) → Overwrites {T = T} {E = E} (Ok done) (file_of (other_of half)) 0 (1 ∷ []) before after → Flips {T = T} {E = E} (Ok done) (written_root half n next_n) (with_next (written_root half n next_n)) before after
  flip_done done wrote = record {
    any_moment = flip_moments {R = Ok done} wrote;
    behind = λ current next knows. (given current next knows, λ later. stands current next later knows);
    elsewhere = elsewhere_of (other_of half) 0 1 before after wrote.touches;
  }
    where
      each : (current next later : Version) → Knows (written_root half n next_n) current next before → EachNow after (AreKnown (other_of half) other.Older next later)
      each current next later knows image now =
          let are = flip_known {R = Ok done} wrote current next knows image now in
          turned next_n half current next later image knows.follows are.0 are.1 (wrote.durable image now)

      stands : (current next later : Version) → Knows (written_root half n next_n) current next before → Knows (with_next (written_root half n next_n)) next later after
      stands current next later knows = known_by (other_of half) next_n other.Older next later after knows.follows.is tt (each current next later knows)

      given : (current next : Version) → Knows (written_root half n next_n) current next before → EachNow after (GivesVersion next)
      given current next knows = known_given (with_next (written_root half n next_n)) next next after (stands current next next knows)

abbrev pub dirty_root : Half → ℕ → ℕ → Root
dirty_root half n next_n = root_of half n (other.Opening next_n)

-- closing the gate that a flip may have opened
module _ {T E : Type 0} (half : Half) (n next_n : ℕ) (before after : Disk) where
  repair_moments : {R : Result T E} → Overwrites {T = T} {E = E} R (file_of (other_of half)) 0 (0 ∷ []) before after → (current next : Version) → Knows (dirty_root half n next_n) current next before → LeavesOnly before after (GivesOneOf current next)
  repair_moments wrote current next knows =
      given_moments half 0 1 before after wrote.touches (other.Opening next_n) (other.Opening next_n) current next next (opening_step half next_n current next) knows.follows (each_known half n (other.Opening next_n) current next before knows)

  pub repair_failed : (fault answer : E) → Overwrites {T = T} {E = E} (Err fault) (file_of (other_of half)) 0 (0 ∷ []) before after → Repairs {T = T} {E = E} (Err answer) (dirty_root half n next_n) (dirty_root half n next_n) before after
  repair_failed fault answer wrote = record {
    any_moment = repair_moments {R = Err fault} wrote;
    behind = λ current next knows. known_by half n (other.Opening next_n) current next after knows.number knows.follows
        (known_now half 0 1 before after wrote.touches (other.Opening next_n) (other.Opening next_n) current next next (opening_step half next_n current next) (each_known half n (other.Opening next_n) current next before knows));
    elsewhere = elsewhere_of (other_of half) 0 1 before after wrote.touches;
  }

  pub repair_done : (done : T) → Overwrites {T = T} {E = E} (Ok done) (file_of (other_of half)) 0 (0 ∷ []) before after → Repairs {T = T} {E = E} (Ok done) (dirty_root half n next_n) (with_other (dirty_root half n next_n) other.Closed) before after
  repair_done done wrote = record {
    any_moment = repair_moments {R = Ok done} wrote;
    behind = λ current next knows. (known_given (with_other (dirty_root half n next_n) other.Closed) current next after (stands current next knows), stands current next knows);
    elsewhere = elsewhere_of (other_of half) 0 1 before after wrote.touches;
  }
    where
      stands : (current next : Version) → Knows (dirty_root half n next_n) current next before → Knows (with_other (dirty_root half n next_n) other.Closed) current next after
      stands current next knows = record {
        number = knows.number;
        follows = tt;
        holds = current_now half 0 1 before after current wrote.touches knows.holds;
        known = λ image now. zero_closed (image (file_of (other_of half))) (wrote.durable image now);
      }

-- a root that isn't dirty has nothing to repair
pub repair_none : {T E : Type 0} (done : T) (root : Root) (disk : Disk) → (IsDirty root.other → ⊥) → Repairs {T = T} {E = E} (Ok done) root root disk disk
repair_none done root disk clean = record {
  any_moment = λ current next knows. leaves_still (GivesKnown root.other current next) disk (known_given root current next disk knows);
  behind = λ current next knows. (λ image now. by root.other current next image clean (known_given root current next disk knows image now), knows);
  elsewhere = elsewhere_still disk;
}
  where
    by : (known : Other) (current next : Version) (image : Image) → (IsDirty known → ⊥) → GivesKnown known current next image → GivesVersion current image
    by other.Older current next image clean gives = gives
    by other.Closed current next image clean gives = gives
    by (other.Written n) current next image clean gives = gives
    by (other.Opening n) current next image clean gives = absurd (clean tt)

-- making both files
module _ {T E : Type 0} (v : Version) (front : List ℕ) (is : front ++ v.manifest ≡ 1 ∷ body v) (zero_number : v.n < 2 ^ 64) (size : length v.manifest < 2 ^ 64) (before after : Disk) where
  pub create_not_begun : (fault answer : E) → Overwrites {T = T} {E = E} (Err fault) 2 0 (front ++ v.manifest) before after → Creates {E = E} (Err answer) v before after
  create_not_begun fault answer wrote = record { created = tt; elsewhere = elsewhere_of First 0 (length (front ++ v.manifest)) before after wrote.touches }

  module _ (mid : Disk) (done : T) (first : Overwrites {T = T} {E = E} (Ok done) 2 0 (front ++ v.manifest) before mid) where
    both_files : {R : Result T E} → Overwrites {T = T} {E = E} R 3 0 (0 ∷ []) mid after → ChangesVersionFiles before after
    both_files second = elsewhere_both before mid after (elsewhere_of First 0 (length (front ++ v.manifest)) before mid first.touches) (elsewhere_of Second 0 1 mid after second.touches)

    pub create_failed : (fault answer : E) → Overwrites {T = T} {E = E} (Err fault) 3 0 (0 ∷ []) mid after → Creates {E = E} (Err answer) v before after
    create_failed fault answer second = record { created = tt; elsewhere = both_files {R = Err fault} second }

    pub create_done : (again : T) → Overwrites {T = T} {E = E} (Ok again) 3 0 (0 ∷ []) mid after → Creates {E = E} (Ok (root_of First v.n other.Closed)) v before after
    create_done again second = record { created = (known_given (root_of First v.n other.Closed) v v after (stands v), stands); elsewhere = both_files {R = Ok again} second }
      where
        has : EachNow mid (λ image. HoldsVersion (image 2) v)
        has image now = record { number = zero_number; size = size; open_gate = subst (λ (l : List ℕ). StandsAt (image 2) 0 l) is (first.durable image now) }

        stands : (later : Version) → Knows (root_of First v.n other.Closed) v later after
        stands later = record {
          number = refl;
          follows = tt;
          holds = current_now First 0 1 mid after v second.touches has;
          known = λ image now. zero_closed (image 3) (second.durable image now);
        }

-- the bytes of a file that is open for a version, written in two pieces
pub head_pieces : (v : Version) (head : List ℕ) → head ≡ 1 ∷ (to_le_bytes w64 v.n ++ to_le_bytes w64 (length v.manifest)) → head ++ v.manifest ≡ 1 ∷ body v
head_pieces v head is = ap (λ (l : List ℕ). l ++ v.manifest) is ∙ ap (λ (l : List ℕ). 1 ∷ l) (append_assoc (to_le_bytes w64 v.n) (to_le_bytes w64 (length v.manifest)) v.manifest)

-- what stands behind the gate of a head
pub front_of : (v : Version) (head : List ℕ) → head ≡ 1 ∷ (to_le_bytes w64 v.n ++ to_le_bytes w64 (length v.manifest)) → take 16 (drop 1 head) ≡ to_le_bytes w64 v.n ++ to_le_bytes w64 (length v.manifest)
front_of v head is =
    let rest : List ℕ = to_le_bytes w64 v.n ++ to_le_bytes w64 (length v.manifest) in
    ap (λ (l : List ℕ). take 16 (drop 1 l)) is
    ∙ take_all 16 rest (omega (arith, length-append (to_le_bytes w64 v.n) (to_le_bytes w64 (length v.manifest)), number_long v.n, number_long (length v.manifest)))
