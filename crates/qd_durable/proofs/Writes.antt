-- What writes and syncs of a volume leave, whether they succeed or not.
use Rattle.std.proofs.Common.{◌≡◌, ◌⊎◌, inl, inr, ℕ, ◌+◌, ◌≤◌, List, ◌++◌, length, Option, None, Some, Result, Ok, Err, refl, sym, ◌∙◌, ap, subst, arith, length-append}
use Rattle.qd_volume.specs.Calls.{Syncs, WritesAt}
use Rattle.qd_volume.specs.Files.{Spoiled, Synced, Wrote, written}
use Rattle.qd_volume.specs.Disk.{Disk, Image, changed, reads_of}
use Rattle.qd_durable.specs.Moments.{EachNow, SameOutside, Told, Touches}
use Rattle.qd_durable.specs.Places.{StandsAt}
use Rattle.qd_durable.specs.Writing.{AreDurable, IsSettled, Overwrites}
use Rattle.qd_durable.proofs.Moved.{moves_still, outside_same, reads_wrote, synced_reads, touched_spoiled, touched_synced, touched_wrote, touches_both, touches_wider}
use Rattle.qd_durable.proofs.Standing.{both_written, stands_written}

-- a write that failed
pub write_failed : (T E : Type 0) (old new : Option Disk) (file at : ℕ) (bytes : List ℕ) (fault : E) → WritesAt {T = T} {E = E} old new file at bytes (Err fault) → Told old new (Touches file at (length bytes))
write_failed T E None new file at bytes fault told = told
write_failed T E (Some disk) new file at bytes fault (inl same) = (disk, same, moves_still (SameOutside file at (length bytes)) disk (outside_same file at (length bytes)))
write_failed T E (Some disk) new file at bytes fault (inr spoiled) = (changed disk file (Spoiled at (length bytes) spoiled.0), spoiled.1, touched_spoiled disk file at (length bytes) spoiled.0)

module _ (T U E : Type 0) (file at : ℕ) (bytes : List ℕ) where
  pub through_failed : (old new : Option Disk) (fault answer : E) → WritesAt {T = T} {E = E} old new file at bytes (Err fault) → Told old new (Overwrites {T = U} {E = E} (Err answer) file at bytes)
  through_failed None new fault answer told = told
  through_failed (Some disk) new fault answer told =
      let after = write_failed T E (Some disk) new file at bytes fault told in
      (after.0, after.1, record { touches = after.2; durable = tt })

  pub through_synced : (old mid new : Option Disk) (done : T) (result : Result U E) → WritesAt {T = T} {E = E} old mid file at bytes (Ok done) → Syncs mid new file result → Told old new (Overwrites result file at bytes)
  through_synced None mid new done result wrote synced = subst (λ m. Syncs m new file result) wrote synced
  through_synced (Some disk) mid new done (Err fault) wrote synced =
      (changed disk file (Wrote at bytes), subst (λ m. Syncs {T = U} {E = E} m new file (Err fault)) wrote synced, record { touches = touched_wrote disk file at bytes; durable = tt })
  through_synced (Some disk) mid new done (Ok answer) wrote synced =
      let wet = changed disk file (Wrote at bytes) in (
        changed wet file Synced,
        subst (λ m. Syncs {T = U} {E = E} m new file (Ok answer)) wrote synced,
        record {
          touches = touches_both file at (length bytes) disk wet (changed wet file Synced) (touched_wrote disk file at bytes) (touched_synced wet file at (length bytes));
          durable = λ image now. subst (λ (l : List ℕ). StandsAt l at bytes) (sym (synced_reads wet file image now ∙ reads_wrote disk file at bytes)) (stands_written (reads_of disk file) at bytes);
        },
      )

module _ (file at : ℕ) (front back : List ℕ) where
  abbrev whole : List ℕ
  whole = front ++ back

  long : length whole ≡ length front + length back
  long = length-append front back

  -- the first write touches the range of both
  first : (disk : Disk) → Touches file at (length whole) disk (changed disk file (Wrote at front))
  first disk = touches_wider file at (length front) at (length whole) disk (changed disk file (Wrote at front)) (omega arith) (omega (arith, long)) (touched_wrote disk file at front)

  -- and so does the second one
  both : (disk : Disk) → Touches file at (length whole) disk (changed (changed disk file (Wrote at front)) file (Wrote (at + length front) back))
  both disk =
      let once = changed disk file (Wrote at front) in
      let twice = changed once file (Wrote (at + length front) back) in
      touches_both file at (length whole) disk once twice (first disk)
      (touches_wider file (at + length front) (length back) at (length whole) once twice (omega arith) (omega (arith, long)) (touched_wrote once file (at + length front) back))

module _ (T U E : Type 0) (file at : ℕ) (front back : List ℕ) where
  pub both_first_failed : (old new : Option Disk) (fault answer : E) → WritesAt {T = T} {E = E} old new file at front (Err fault) → Told old new (Overwrites {T = U} {E = E} (Err answer) file at (front ++ back))
  both_first_failed None new fault answer told = told
  both_first_failed (Some disk) new fault answer told =
      let after = write_failed T E (Some disk) new file at front fault told in
      (after.0, after.1, record { touches = touches_wider file at (length front) at (length (front ++ back)) disk after.0 (omega arith) (omega (arith, (long file at front back))) after.2; durable = tt })

  pub both_second_failed : (old mid new : Option Disk) (done : T) (place : ℕ) (fault answer : E) → place ≡ at + length front → WritesAt {T = T} {E = E} old mid file at front (Ok done) → WritesAt {T = T} {E = E} mid new file place back (Err fault) → Told old new (Overwrites {T = U} {E = E} (Err answer) file at (front ++ back))
  both_second_failed None mid new done place fault answer is wrote told = subst (λ m. WritesAt {T = T} {E = E} m new file place back (Err fault)) wrote told
  both_second_failed (Some disk) mid new done place fault answer is wrote told =
      let once = changed disk file (Wrote at front) in
      let after = write_failed T E (Some once) new file place back fault (subst (λ m. WritesAt {T = T} {E = E} m new file place back (Err fault)) wrote told) in (
        after.0,
        after.1,
        record {
          touches = touches_both file at (length (front ++ back)) disk once after.0 (first file at front back disk) (touches_wider file place (length back) at (length (front ++ back)) once after.0 (omega (arith, is)) (omega (arith, is, (long file at front back))) after.2);
          durable = tt;
        },
      )

  pub both_synced : (old mid late new : Option Disk) (done again : T) (place : ℕ) (result : Result U E) → place ≡ at + length front → WritesAt {T = T} {E = E} old mid file at front (Ok done) → WritesAt {T = T} {E = E} mid late file place back (Ok again) → Syncs late new file result → Told old new (Overwrites result file at (front ++ back))
  both_synced None mid late new done again place result is wrote told synced =
      let none : late ≡ None = subst (λ m. WritesAt {T = T} {E = E} m late file place back (Ok again)) wrote told in
      subst (λ m. Syncs m new file result) none synced
  both_synced (Some disk) mid late new done again place (Err fault) is wrote told synced =
      let once = changed disk file (Wrote at front) in
      let twice : late ≡ Some (changed once file (Wrote place back)) = subst (λ m. WritesAt {T = T} {E = E} m late file place back (Ok again)) wrote told in (
        changed once file (Wrote place back),
        subst (λ m. Syncs {T = U} {E = E} m new file (Err fault)) twice synced,
        record { touches = subst (λ n. Touches file at (length (front ++ back)) disk (changed once file (Wrote n back))) (sym is) (both file at front back disk); durable = tt },
      )
  both_synced (Some disk) mid late new done again place (Ok answer) is wrote told synced =
      let once = changed disk file (Wrote at front) in
      let wet = changed once file (Wrote place back) in
      let twice : late ≡ Some wet = subst (λ m. WritesAt {T = T} {E = E} m late file place back (Ok again)) wrote told in (
        changed wet file Synced,
        subst (λ m. Syncs {T = U} {E = E} m new file (Ok answer)) twice synced,
        record {
          touches = touches_both file at (length (front ++ back)) disk wet (changed wet file Synced) (subst (λ n. Touches file at (length (front ++ back)) disk (changed once file (Wrote n back))) (sym is) (both file at front back disk)) (touched_synced wet file at (length (front ++ back)));
          durable = λ image now. subst (λ (l : List ℕ). StandsAt l at (front ++ back))
              (sym (synced_reads wet file image now ∙ reads_wrote once file place back ∙ ap (λ (l : List ℕ). written l place back) (reads_wrote disk file at front) ∙ ap (λ n. written (written (reads_of disk file) at front) n back) is))
              (both_written (reads_of disk file) at front back);
        },
      )

-- a sync alone
pub synced_told : {U E : Type 0} (old new : Option Disk) (file at size : ℕ) (result : Result U E) → Syncs old new file result → Told old new (λ before after. Touches file at size before after × IsSettled result before after file)
synced_told None new file at size result synced = synced
synced_told (Some disk) new file at size (Err fault) synced = (disk, synced, (moves_still (SameOutside file at size) disk (outside_same file at size), tt))
synced_told (Some disk) new file at size (Ok answer) synced = (changed disk file Synced, synced, (touched_synced disk file at size, synced_reads disk file))

-- what a call makes of a told volume, in other words
pub told_map : (P Q : Disk → Disk → Type 0) (old new : Option Disk) → ((before after : Disk) → P before after → Q before after) → Told old new P → Told old new Q
told_map P Q None new words told = told
told_map P Q (Some disk) new words told = (told.0, told.1, words disk told.0 told.2)

-- two calls, one behind the other
pub told_both : (P Q R : Disk → Disk → Type 0) (old mid new : Option Disk) → ((a b c : Disk) → P a b → Q b c → R a c) → Told old mid P → Told mid new Q → Told old new R
told_both P Q R None mid new join first second = subst (λ m. Told m new Q) first second
told_both P Q R (Some disk) mid new join first second =
    let later : Told (Some first.0) new Q = subst (λ m. Told m new Q) first.1 second in
    (later.0, later.1, join disk first.0 later.0 first.2 later.2)

-- a call that does nothing
pub told_still : (P : Disk → Disk → Type 0) (old : Option Disk) → ((disk : Disk) → P disk disk) → Told old old P
told_still P None same = refl
told_still P (Some disk) same = (disk, refl, same disk)
