-- What a command did, from what is said of its status, and what it did where no memory was found; and the words that ask for it.
use Rattle.std.proofs.Common.{◌≡◌, ℕ, ◌≤◌, ◌⊎◌, ◌↔◌, inl, inr, List, [], length, if◌then◌else◌, nat_eq, Option, Some, None, refl, sym, ◌∙◌, ap, subst, arith}
use Rattle.std.proofs.lemmas.List.{take_all}
use Rattle.qd_store_backend.specs.Volumes.{IsDamagedAt, IsUnopened, MayFind}
use Rattle.qd_store.proofs.OpenTold.{reads_now}
use Rattle.qd_base.specs.declared.limits.TheConstants.{LAST_OFFSET}
use Rattle.qd_base.specs.declared.op.Entry.{Entry}
use Rattle.qd_base.specs.declared.request.Request.{Request}
use Rattle.qd_base.specs.declared.request.Reply.{Reply}
use Rattle.qd_base.specs.Script.{Ending, Ended}
use Rattle.qd_durable.specs.Moments.{Told}
use Rattle.qd_durable.proofs.Writes.{told_still}
use Rattle.qd_frames.specs.Frames.{Steps}
use Rattle.qd_gen.specs.Framed.{IsReadAsAsked}
use Rattle.qd_gen.specs.Generated.{requests, input as generated}
use Rattle.qd_host.specs.Hosts.{Supply}
use Rattle.qd_io.specs.Ends.{HasRisen, Stream}
use Rattle.qd_print.specs.Printed.{reply_bytes}
use Rattle.qd_gen.specs.Quieted.{without_done}
use Rattle.qd_session.specs.Session.{IsClean}
use Rattle.qd_volume.specs.Disk.{Disk, reads_of}
use Rattle.qd_args.specs.Words.{Asks, IsCommand}
use Rattle.qd_args.specs.declared.command.Command.{Command}
use Rattle.qd_args.specs.declared.command.Spoken.{Spoken}
use Rattle.qd_fronts.specs.declared.front.FrontKind.{FrontKind}
use Rattle.qd_args.specs.declared.command.Command.TheVariants as command
use Rattle.qd_args.specs.declared.command.TheConstants.{MAX_GEN_LINES}
use Rattle.qd_top.specs.Run.{kind_of, Answered, AsksFor, AsksToRun, CountsReads, CountsWrites, Did, EndsWith, FoundDamage, IsDamagedTold, IsUnserved, IsWellFramed, NoneFailed, Outside, Ran, Served, ServedPort, Traffic, Unopened, WroteUsage, limit_of, reached, traffic, usage}
use Rattle.qd_top.specs.Stores.{IsOfNoStore, Names}
use Rattle.qd_top.specs.Status.{number_of}
use Rattle.qd_top.specs.declared.status.Status.{Status}
use Rattle.qd_top.specs.declared.status.Status.TheVariants as status
use Rattle.qd_top.proofs.HostLemmas.{put-nothing}
use Rattle.qd_top.proofs.RunLemmas.{not_refused}

-- the status of a number
status_with : ℕ → Status
status_with n =
    if nat_eq n 0
    then status.Finished
    else if nat_eq n 1
    then status.Usage
    else if nat_eq n 2
    then status.BadFrame
    else if nat_eq n 3
    then status.ReadFault
    else if nat_eq n 4
    then status.WriteFault
    else if nat_eq n 5
    then status.NoVolume
    else if nat_eq n 6
    then status.Damaged
    else if nat_eq n 7
    then status.NoMemory
    else status.NoListener

status_with-number_of : (s : Status) → status_with (number_of s) ≡ s
unfolding status_with
status_with-number_of status.Finished = refl
status_with-number_of status.Usage = refl
status_with-number_of status.BadFrame = refl
status_with-number_of status.ReadFault = refl
status_with-number_of status.WriteFault = refl
status_with-number_of status.NoVolume = refl
status_with-number_of status.Damaged = refl
status_with-number_of status.NoMemory = refl
status_with-number_of status.NoListener = refl

-- each number is that of one status alone
one_status : (s t : Status) → number_of s ≡ number_of t → s ≡ t
one_status s t e = sym (status_with-number_of s) ∙ ap status_with e ∙ status_with-number_of t

-- where the status has this number, the count has risen
pub read-cause-from : (s : Status) (before now : ℕ) → number_of s ≡ 3 → CountsReads before now s → (before ≤ now) × HasRisen before now
read-cause-from s before now e c = subst (λ (t : Status). CountsReads before now t) (one_status s status.ReadFault e) c

-- and otherwise it stays
pub reads-stay-from : (s : Status) (before now : ℕ) → (number_of s ≡ 3 → ⊥) → CountsReads before now s → now ≡ before
reads-stay-from status.ReadFault before now e c = absurd (e refl)
reads-stay-from status.Finished before now e c = c
reads-stay-from status.Usage before now e c = c
reads-stay-from status.BadFrame before now e c = c
reads-stay-from status.WriteFault before now e c = c
reads-stay-from status.NoVolume before now e c = c
reads-stay-from status.Damaged before now e c = c
reads-stay-from status.NoMemory before now e c = c
reads-stay-from status.NoListener before now e c = c

pub write-cause-from : (s : Status) (before now : ℕ) → number_of s ≡ 4 → CountsWrites before now s → (before ≤ now) × HasRisen before now
write-cause-from s before now e c = subst (λ (t : Status). CountsWrites before now t) (one_status s status.WriteFault e) c

pub writes-stay-from : (s : Status) (before now : ℕ) → (number_of s ≡ 4 → ⊥) → (number_of s ≡ 1 → ⊥) → CountsWrites before now s → now ≡ before
writes-stay-from status.WriteFault before now e u c = absurd (e refl)
writes-stay-from status.Usage before now e u c = absurd (u refl)
writes-stay-from status.Finished before now e u c = c
writes-stay-from status.BadFrame before now e u c = c
writes-stay-from status.ReadFault before now e u c = c
writes-stay-from status.NoVolume before now e u c = c
writes-stay-from status.Damaged before now e u c = c
writes-stay-from status.NoMemory before now e u c = c
writes-stay-from status.NoListener before now e u c = c

-- ---- a command, by the number of its status

module _ (print : Reply → List ℕ) (found : Option (List Entry)) (host host' : Supply) (t : Traffic) where
  -- a volume that isn't made, or is whole, isn't damaged
  never_damaged : (h : List Entry) (missing : List ℕ) → MayFind (Some h) host.shelf → FoundDamage host host' t missing → ⊥
  never_damaged h missing may d = by host.shelf may d.volume
    where
      by : (shelf : Option Disk) → MayFind (Some h) shelf → Told shelf host'.shelf (IsDamagedAt d.file d.at) → ⊥
      by None (n, holds) told = holds
      by (Some disk) (n, inl (unmade, none, zero)) told = unmade (reads_of disk) (reads_now disk) told.2.made
      by (Some disk) (n, inr (whole, f, finds, is, number)) told = told.2.not_whole whole

  -- over whole frames and a volume that isn't made or is whole, and where no count rises, a command finishes or finds no memory
  complete-from : (s : Status) (reads reads' writes writes' : ℕ) (h : List Entry) → found ≡ Some h → MayFind found host.shelf → Ran print found host host' t s → CountsReads reads reads' s → CountsWrites writes writes' s
      → IsWellFramed t.input → (HasRisen reads reads' → ⊥) → (HasRisen writes writes' → ⊥) → (HasRisen host.volume_faults host'.volume_faults → ⊥) → (number_of s ≡ 0) ⊎ (number_of s ≡ 7)
  complete-from status.Finished reads reads' writes writes' h is may r read write well no_read no_write no_volume = inl refl
  complete-from status.Usage reads reads' writes writes' h is may r read write well no_read no_write no_volume = absurd r
  complete-from status.BadFrame reads reads' writes writes' h is may r read write well no_read no_write no_volume = absurd (not_refused print r.before r.after t well r.ran)
  complete-from status.ReadFault reads reads' writes writes' h is may r read write well no_read no_write no_volume = absurd (no_read read.1)
  complete-from status.WriteFault reads reads' writes writes' h is may r read write well no_read no_write no_volume = absurd (no_write write.1)
  complete-from status.NoVolume reads reads' writes writes' h is may r read write well no_read no_write no_volume = absurd (no_volume r.1)
  complete-from status.Damaged reads reads' writes writes' h is may r read write well no_read no_write no_volume = absurd (never_damaged h [] (subst (λ (o : Option (List Entry)). MayFind o host.shelf) is may) r)
  complete-from status.NoMemory reads reads' writes writes' h is may r read write well no_read no_write no_volume = inr refl
  complete-from status.NoListener reads reads' writes writes' h is may r read write well no_read no_write no_volume = absurd r

  -- over a damaged volume it says where, or finds no memory
  damaged-from : (s : Status) (reads reads' writes writes' : ℕ) → Ran print found host host' t s → CountsReads reads reads' s → CountsWrites writes writes' s → IsDamagedTold host.shelf
      → (HasRisen reads reads' → ⊥) → (HasRisen writes writes' → ⊥) → (HasRisen host.volume_faults host'.volume_faults → ⊥) → (number_of s ≡ 6) ⊎ (number_of s ≡ 7)
  damaged-from status.Finished reads reads' writes writes' r read write damaged no_read no_write no_volume = absurd (r.begun.undamaged damaged)
  damaged-from status.Usage reads reads' writes writes' r read write damaged no_read no_write no_volume = absurd r
  damaged-from status.BadFrame reads reads' writes writes' r read write damaged no_read no_write no_volume = absurd (r.begun.undamaged damaged)
  damaged-from status.ReadFault reads reads' writes writes' r read write damaged no_read no_write no_volume = absurd (no_read read.1)
  damaged-from status.WriteFault reads reads' writes writes' r read write damaged no_read no_write no_volume = absurd (no_write write.1)
  damaged-from status.NoVolume reads reads' writes writes' r read write damaged no_read no_write no_volume = absurd (no_volume r.1)
  damaged-from status.Damaged reads reads' writes writes' r read write damaged no_read no_write no_volume = inl refl
  damaged-from status.NoMemory reads reads' writes writes' r read write damaged no_read no_write no_volume = inr refl
  damaged-from status.NoListener reads reads' writes writes' r read write damaged no_read no_write no_volume = absurd r

  -- a command doesn't end with the status of other words
  ends-from : (dir : Option (List ℕ)) (s : Status) → Ran print found host host' t s → EndsWith (command.Run dir) (number_of s)
  ends-from dir status.Finished r = inl refl
  ends-from dir status.Usage r = absurd r
  ends-from dir status.BadFrame r = inr (inl refl)
  ends-from dir status.ReadFault r = inr (inr (inl refl))
  ends-from dir status.WriteFault r = inr (inr (inr (inl refl)))
  ends-from dir status.NoVolume r = inr (inr (inr (inr (inl refl))))
  ends-from dir status.Damaged r = inr (inr (inr (inr (inr (inl refl)))))
  ends-from dir status.NoMemory r = inr (inr (inr (inr (inr (inr refl)))))
  ends-from dir status.NoListener r = absurd r

  -- over whole frames, and where no read can fail, neither a frame nor a read ends it
  pub ends_well-from : (s : Status) (number lines : ℕ) → Ran print found host host' t s → CountsReads 0 0 s → IsWellFramed t.input → EndsWith (command.Gen number lines) (number_of s)
  ends_well-from status.Finished number lines r read well = inl refl
  ends_well-from status.Usage number lines r read well = absurd r
  ends_well-from status.BadFrame number lines r read well = absurd (not_refused print r.before r.after t well r.ran)
  ends_well-from status.ReadFault number lines r (most, inl less) well = absurd (omega (arith, less))
  ends_well-from status.ReadFault number lines r (most, inr last) well = absurd (omega (arith, last))
  ends_well-from status.WriteFault number lines r read well = inr (inl refl)
  ends_well-from status.NoVolume number lines r read well = inr (inr (inl refl))
  ends_well-from status.Damaged number lines r read well = inr (inr (inr (inl refl)))
  ends_well-from status.NoMemory number lines r read well = inr (inr (inr (inr refl)))
  ends_well-from status.NoListener number lines r read well = absurd r

-- where the generated input was served, no read of the given one was counted
pub reads-of-gen : (s : Status) (number lines n : ℕ) → EndsWith (command.Gen number lines) (number_of s) → CountsReads n n s
reads-of-gen status.Finished number lines n e = refl
reads-of-gen status.Usage number lines n e = refl
reads-of-gen status.BadFrame number lines n e = refl
reads-of-gen status.ReadFault number lines n (inl e) = absurd (omega (arith, e))
reads-of-gen status.ReadFault number lines n (inr (inl e)) = absurd (omega (arith, e))
reads-of-gen status.ReadFault number lines n (inr (inr (inl e))) = absurd (omega (arith, e))
reads-of-gen status.ReadFault number lines n (inr (inr (inr (inl e)))) = absurd (omega (arith, e))
reads-of-gen status.ReadFault number lines n (inr (inr (inr (inr e)))) = absurd (omega (arith, e))
reads-of-gen status.WriteFault number lines n e = refl
reads-of-gen status.NoVolume number lines n e = refl
reads-of-gen status.Damaged number lines n e = refl
reads-of-gen status.NoMemory number lines n e = refl
reads-of-gen status.NoListener number lines n e = refl

-- the folder that a command names, by its status
folder-of : (old new : Option (List (List ℕ))) (dir : Option (List ℕ)) (s : Status) → Names old new dir (s ≡ status.NoMemory) → AsksFor old new dir ⊎ ((number_of s ≡ 7) × (new ≡ old))
folder-of old new dir s (inl asks) = inl asks
folder-of old new dir s (inr (is, same)) = inr (ap number_of is, same)

-- no bad frame and no failed read ends `gen`
other_end : (n number lines : ℕ) → EndsWith (command.Gen number lines) n → (2 ≤ n) × (n ≤ 3) → ⊥
other_end n number lines (inl e) within = omega (arith, e, within.0, within.1)
other_end n number lines (inr (inl e)) within = omega (arith, e, within.0, within.1)
other_end n number lines (inr (inr (inl e))) within = omega (arith, e, within.0, within.1)
other_end n number lines (inr (inr (inr (inl e)))) within = omega (arith, e, within.0, within.1)
other_end n number lines (inr (inr (inr (inr e)))) within = omega (arith, e, within.0, within.1)

-- what `run` did
pub did-run : (dir : Option (List ℕ)) (found : Option (List Entry)) (old new : Outside) (s : Status) → MayFind found old.host.shelf
    → Ran reply_bytes found old.host new.host (traffic old.input new.input old.output new.output) s → CountsReads old.input.reads_failed new.input.reads_failed s → CountsWrites old.output.writes_failed new.output.writes_failed s
    → Names old.host.folders new.host.folders dir (s ≡ status.NoMemory) → Did (command.Run dir) found old new (number_of s)
did-run dir found old new s may ran reads writes named = record {
  ends = ends-from reply_bytes found old.host new.host (traffic old.input new.input old.output new.output) dir s ran;
  ran = (s, refl, ran);
  folder = folder-of old.host.folders new.host.folders dir s named;
  complete = λ h is well none. complete-from reply_bytes found old.host new.host (traffic old.input new.input old.output new.output) s old.input.reads_failed new.input.reads_failed old.output.writes_failed new.output.writes_failed h is may ran reads writes well none.reads none.writes none.volume;
  damaged = λ damaged none. damaged-from reply_bytes found old.host new.host (traffic old.input new.input old.output new.output) s old.input.reads_failed new.input.reads_failed old.output.writes_failed new.output.writes_failed ran reads writes damaged none.reads none.writes none.volume;
}

-- what `gen` did
pub did-gen : (number lines : ℕ) (found : Option (List Entry)) (old new : Outside) (s : Status) (left : Option (List ℕ)) → MayFind found old.host.shelf → new.input ≡ old.input
    → Ran (without_done reply_bytes) found old.host new.host (record { input = Some (generated number lines); left = left; output = old.output.output; written = new.output.output }) s → EndsWith (command.Gen number lines) (number_of s) → CountsWrites old.output.writes_failed new.output.writes_failed s
    → Names old.host.folders new.host.folders None (s ≡ status.NoMemory) → Did (command.Gen number lines) found old new (number_of s)
did-gen number lines found old new s left may same ran ends writes named = record {
  ends = ends;
  ran = (s, refl, (left, ran));
  folder = folder-of old.host.folders new.host.folders None s named;
  complete = λ h is well none. by s h is ran ends writes none;
  damaged = λ damaged none. damaged-from (without_done reply_bytes) found old.host new.host t s 0 0 old.output.writes_failed new.output.writes_failed ran (reads-of-gen s number lines 0 ends) writes damaged none_risen none.writes none.volume;
}
  where
    t : Traffic
    t = record { input = Some (generated number lines); left = left; output = old.output.output; written = new.output.output }

    none_risen : HasRisen 0 0 → ⊥
    none_risen (inl less) = omega (arith, less)
    none_risen (inr last) = omega (arith, last)

    by : (u : Status) (h : List Entry) → found ≡ Some h → Ran (without_done reply_bytes) found old.host new.host t u → EndsWith (command.Gen number lines) (number_of u) → CountsWrites old.output.writes_failed new.output.writes_failed u
        → NoneFailed old new → (number_of u ≡ 0) ⊎ (number_of u ≡ 7)
    by status.Finished h is r e count none = inl refl
    by status.Usage h is r e count none = absurd r
    by status.BadFrame h is r e count none = absurd (other_end 2 number lines e (omega arith, omega arith))
    by status.ReadFault h is r e count none = absurd (other_end 3 number lines e (omega arith, omega arith))
    by status.WriteFault h is r e count none = absurd (none.writes count.1)
    by status.NoVolume h is r e count none = absurd (none.volume r.1)
    by status.Damaged h is r e count none = absurd (never_damaged (without_done reply_bytes) found old.host new.host t h [] (subst (λ (o : Option (List Entry)). MayFind o old.host.shelf) is may) r)
    by status.NoMemory h is r e count none = inr refl
    by status.NoListener h is r e count none = absurd r

-- ---- a port, by the number of its status

module _ (kind : FrontKind) (found : Option (List Entry)) (host host' : Supply) (port most : ℕ) (t : Traffic) where
  -- serving doesn't end as a session does
  ends-serving : (s : Status) (named : ℕ) (folder : List ℕ) (limit : Option ℕ) (spoken : Spoken) → ServedPort kind found host host' port most t s → EndsWith (command.Serve named folder limit spoken) (number_of s)
  ends-serving status.Finished named folder limit spoken r = inl refl
  ends-serving status.Usage named folder limit spoken r = absurd r
  ends-serving status.BadFrame named folder limit spoken r = absurd r
  ends-serving status.ReadFault named folder limit spoken r = absurd r
  ends-serving status.WriteFault named folder limit spoken r = inr (inl refl)
  ends-serving status.NoVolume named folder limit spoken r = inr (inr (inl refl))
  ends-serving status.Damaged named folder limit spoken r = inr (inr (inr (inl refl)))
  ends-serving status.NoMemory named folder limit spoken r = inr (inr (inr (inr (inl refl))))
  ends-serving status.NoListener named folder limit spoken r = inr (inr (inr (inr (inr refl))))

  -- over a damaged volume it says where, or finds no memory
  damaged-serving : (s : Status) (writes writes' : ℕ) → ServedPort kind found host host' port most t s → CountsWrites writes writes' s → IsDamagedTold host.shelf
      → (HasRisen writes writes' → ⊥) → (HasRisen host.volume_faults host'.volume_faults → ⊥) → (number_of s ≡ 6) ⊎ (number_of s ≡ 7)
  damaged-serving status.Finished writes writes' r write damaged no_write no_volume = absurd (r.begun.undamaged damaged)
  damaged-serving status.Usage writes writes' r write damaged no_write no_volume = absurd r
  damaged-serving status.BadFrame writes writes' r write damaged no_write no_volume = absurd r
  damaged-serving status.ReadFault writes writes' r write damaged no_write no_volume = absurd r
  damaged-serving status.WriteFault writes writes' r write damaged no_write no_volume = absurd (no_write write.1)
  damaged-serving status.NoVolume writes writes' r write damaged no_write no_volume = absurd (no_volume r.1)
  damaged-serving status.Damaged writes writes' r write damaged no_write no_volume = inl refl
  damaged-serving status.NoMemory writes writes' r write damaged no_write no_volume = inr refl
  damaged-serving status.NoListener writes writes' r write damaged no_write no_volume = absurd (r.0.begun.undamaged damaged)

  -- no read of the input is counted
  pub reads-of-serving : (s : Status) (n : ℕ) → ServedPort kind found host host' port most t s → CountsReads n n s
  reads-of-serving status.Finished n r = refl
  reads-of-serving status.Usage n r = absurd r
  reads-of-serving status.BadFrame n r = absurd r
  reads-of-serving status.ReadFault n r = absurd r
  reads-of-serving status.WriteFault n r = refl
  reads-of-serving status.NoVolume n r = refl
  reads-of-serving status.Damaged n r = refl
  reads-of-serving status.NoMemory n r = refl
  reads-of-serving status.NoListener n r = refl

-- over a volume that isn't made or is whole, and where nothing fails, `serve` finishes unless memory runs out
complete-serving : (kind : FrontKind) (found : Option (List Entry)) (old new : Outside) (port most : ℕ) (t : Traffic) (s : Status) (h : List Entry) → found ≡ Some h → MayFind found old.host.shelf → ServedPort kind found old.host new.host port most t s
    → CountsWrites old.output.writes_failed new.output.writes_failed s → NoneFailed old new → (number_of s ≡ 0) ⊎ (number_of s ≡ 7)
complete-serving kind found old new port most t status.Finished h is may r writes none = inl refl
complete-serving kind found old new port most t status.Usage h is may r writes none = absurd r
complete-serving kind found old new port most t status.BadFrame h is may r writes none = absurd r
complete-serving kind found old new port most t status.ReadFault h is may r writes none = absurd r
complete-serving kind found old new port most t status.WriteFault h is may r writes none = absurd (none.writes writes.1)
complete-serving kind found old new port most t status.NoVolume h is may r writes none = absurd (none.volume r.1)
complete-serving kind found old new port most t status.Damaged h is may r writes none = absurd (never_damaged reply_bytes found old.host new.host t h [] (subst (λ (o : Option (List Entry)). MayFind o old.host.shelf) is may) r.0)
complete-serving kind found old new port most t status.NoMemory h is may r writes none = inr refl
complete-serving kind found old new port most t status.NoListener h is may r writes none = absurd (none.listener r.1)

-- what `serve` did
pub did-serve : (port : ℕ) (dir : List ℕ) (most : Option ℕ) (spoken : Spoken) (found : Option (List Entry)) (old new : Outside) (s : Status) → MayFind found old.host.shelf
    → ServedPort (kind_of spoken) found old.host new.host port (limit_of most) (traffic old.input new.input old.output new.output) s → CountsWrites old.output.writes_failed new.output.writes_failed s
    → Names old.host.folders new.host.folders (Some dir) (s ≡ status.NoMemory) → Did (command.Serve port dir most spoken) found old new (number_of s)
did-serve port dir most spoken found old new s may served writes named =
    let t = traffic old.input new.input old.output new.output in
    record {
      ends = ends-serving (kind_of spoken) found old.host new.host port (limit_of most) t s port dir most spoken served;
      ran = (s, refl, served);
      folder = folder-of old.host.folders new.host.folders (Some dir) s named;
      complete = λ h is well none. complete-serving (kind_of spoken) found old new port (limit_of most) t s h is may served writes none;
      damaged = λ damaged none. damaged-serving (kind_of spoken) found old.host new.host port (limit_of most) t s old.output.writes_failed new.output.writes_failed served writes damaged none.writes none.volume;
    }

-- ---- nothing was done

-- a volume that is as it was
volume-as_it_was : (shelf : Option Disk) → Told shelf shelf IsUnopened
volume-as_it_was shelf = told_still IsUnopened shelf (λ disk. inl (λ file. refl))

pub nothing-done : (host : Supply) (input output : Option (List ℕ)) → Unopened host host (record { input = input; left = input; output = output; written = output })
nothing-done host input output = record { unserved = record { unread = refl; put = put-nothing output; clock_faults = refl }; volume = volume-as_it_was host.shelf }

nothing-served : (asked : Command) (found : Option (List Entry)) (o : Outside) → Served asked found o o status.NoMemory
nothing-served (command.Run dir) found o = inr (nothing-done o.host o.input.input o.output.output)
nothing-served (command.Gen number lines) found o = (Some (generated number lines), inr (nothing-done o.host (Some (generated number lines)) o.output.output))
nothing-served (command.Serve port dir most spoken) found o = inr (inr (nothing-done o.host o.input.input o.output.output), refl)

ends-without_memory : (asked : Command) → EndsWith asked 7
ends-without_memory (command.Run dir) = inr (inr (inr (inr (inr (inr refl)))))
ends-without_memory (command.Gen number lines) = inr (inr (inr (inr refl)))
ends-without_memory (command.Serve port dir most spoken) = inr (inr (inr (inr (inl refl))))

-- no memory was found to read the words, and nothing was done
pub did-nothing : (asked : Command) (found : Option (List Entry)) (o : Outside) → Did asked found o o 7
did-nothing asked found o = record {
  ends = ends-without_memory asked;
  ran = (status.NoMemory, refl, nothing-served asked found o);
  folder = inr (refl, refl);
  complete = λ h is well none. inr refl;
  damaged = λ damaged none. inr refl;
}

-- ---- the generated input

-- it is whole frames, as far as offsets reach, which is to its end
pub generated-well : (number lines : ℕ) → IsReadAsAsked → lines ≤ MAX_GEN_LINES → length (generated number lines) ≤ LAST_OFFSET
    → ((at : ℕ) (bytes : List ℕ) (rs qs : List Request) (e f : Ending) → Steps at bytes rs e → Steps at bytes qs f → (rs ≡ qs) × (e ≡ f))
    → IsWellFramed (Some (generated number lines))
generated-well number lines law few short one = λ rs e steps.
    let all : reached (generated number lines) ≡ generated number lines = take_all LAST_OFFSET (generated number lines) short in
    let same = one 0 (generated number lines) rs (requests number lines) e Ended (subst (λ (x : List ℕ). Steps 0 x rs e) all steps) (law number lines few) in
    subst (λ (x : Ending). IsClean (Some (reached (generated number lines))) (reached (generated number lines)) x) (sym same.1) tt

-- ---- what the words ask for

-- the words ask for the one command that was found in them
pub asks_alone : (P : Command → Type 0) (found : Option Command) (words : List (List ℕ)) (one : Command) → ((asked : Command) → (found ≡ Some asked) ↔ Asks asked words) → found ≡ Some one → P one → (asked : Command) → Asks asked words → P asked
asks_alone P found words one exact is p asked a =
    let same : Some one ≡ Some asked = sym is ∙ (exact asked).1 a in
    let e : one ≡ asked = cc (same) in
    subst P e p

-- and for none, where none was found
pub asks_none : (found : Option Command) (words : List (List ℕ)) → ((asked : Command) → (found ≡ Some asked) ↔ Asks asked words) → found ≡ None → (asked : Command) → Asks asked words → ⊥
asks_none found words exact is asked a = let same : None ≡ Some asked = sym is ∙ (exact asked).1 a in cc (same)

-- ---- all that is said of the words

number_among : (s : Status) → number_of s ≤ 8
number_among status.Finished = omega arith
number_among status.Usage = omega arith
number_among status.BadFrame = omega arith
number_among status.ReadFault = omega arith
number_among status.WriteFault = omega arith
number_among status.NoVolume = omega arith
number_among status.Damaged = omega arith
number_among status.NoMemory = omega arith
number_among status.NoListener = omega arith

-- a status with the number of one without a store is one
pub unserved-from : (s : Status) → IsUnserved (number_of s) → IsOfNoStore s
unserved-from status.Finished (inl e) = absurd (omega (arith, e))
unserved-from status.Finished (inr e) = absurd (omega (arith, e))
unserved-from status.Usage (inl e) = absurd (omega (arith, e))
unserved-from status.Usage (inr e) = absurd (omega (arith, e))
unserved-from status.BadFrame (inl e) = absurd (omega (arith, e))
unserved-from status.BadFrame (inr e) = absurd (omega (arith, e))
unserved-from status.ReadFault (inl e) = absurd (omega (arith, e))
unserved-from status.ReadFault (inr e) = absurd (omega (arith, e))
unserved-from status.WriteFault (inl e) = absurd (omega (arith, e))
unserved-from status.WriteFault (inr e) = absurd (omega (arith, e))
unserved-from status.NoVolume h = tt
unserved-from status.Damaged h = tt
unserved-from status.NoMemory (inl e) = absurd (omega (arith, e))
unserved-from status.NoMemory (inr e) = absurd (omega (arith, e))
unserved-from status.NoListener (inl e) = absurd (omega (arith, e))
unserved-from status.NoListener (inr e) = absurd (omega (arith, e))

-- no command ends with the number of other words
not_usage : (asked : Command) (n : ℕ) → EndsWith asked n → n ≡ 1 → ⊥
not_usage (command.Run dir) n (inl e) u = omega (arith, e, u)
not_usage (command.Run dir) n (inr (inl e)) u = omega (arith, e, u)
not_usage (command.Run dir) n (inr (inr (inl e))) u = omega (arith, e, u)
not_usage (command.Run dir) n (inr (inr (inr (inl e)))) u = omega (arith, e, u)
not_usage (command.Run dir) n (inr (inr (inr (inr (inl e))))) u = omega (arith, e, u)
not_usage (command.Run dir) n (inr (inr (inr (inr (inr (inl e)))))) u = omega (arith, e, u)
not_usage (command.Run dir) n (inr (inr (inr (inr (inr (inr e)))))) u = omega (arith, e, u)
not_usage (command.Gen number lines) n (inl e) u = omega (arith, e, u)
not_usage (command.Gen number lines) n (inr (inl e)) u = omega (arith, e, u)
not_usage (command.Gen number lines) n (inr (inr (inl e))) u = omega (arith, e, u)
not_usage (command.Gen number lines) n (inr (inr (inr (inl e)))) u = omega (arith, e, u)
not_usage (command.Gen number lines) n (inr (inr (inr (inr e)))) u = omega (arith, e, u)
not_usage (command.Serve port dir most spoken) n (inl e) u = omega (arith, e, u)
not_usage (command.Serve port dir most spoken) n (inr (inl e)) u = omega (arith, e, u)
not_usage (command.Serve port dir most spoken) n (inr (inr (inl e))) u = omega (arith, e, u)
not_usage (command.Serve port dir most spoken) n (inr (inr (inr (inl e)))) u = omega (arith, e, u)
not_usage (command.Serve port dir most spoken) n (inr (inr (inr (inr (inl e))))) u = omega (arith, e, u)
not_usage (command.Serve port dir most spoken) n (inr (inr (inr (inr (inr e))))) u = omega (arith, e, u)

-- the number of a failed listener comes only where one failed
listener-from : (asked : Command) (found : Option (List Entry)) (old new : Outside) (s : Status) → Served asked found old new s → s ≡ status.NoListener → HasRisen old.host.listener_faults new.host.listener_faults
listener-from asked found old new s served is = by asked (subst (λ (u : Status). Served asked found old new u) is served)
  where
    by : (one : Command) → Served one found old new status.NoListener → HasRisen old.host.listener_faults new.host.listener_faults
    by (command.Run dir) r = absurd r
    by (command.Gen number lines) r = absurd r.1
    by (command.Serve port dir most spoken) r = r.1

-- what is said of words that ask for one command, which was done
pub answered-command : (asked : Command) (words : List (List ℕ)) (found : Option (List Entry)) (old new : Outside) (s : Status) → Asks asked words
    → Did asked found old new (number_of s) → (Did asked found old new (number_of s) → (other : Command) → Asks other words → Did other found old new (number_of s))
    → CountsReads old.input.reads_failed new.input.reads_failed s → CountsWrites old.output.writes_failed new.output.writes_failed s → ((AsksToRun words → ⊥) ⊎ IsUnserved (number_of s) → new.input ≡ old.input)
    → Answered words found old new (number_of s)
answered-command asked words found old new s asks done alone reads writes unread = record {
  statuses = number_among s;
  words = λ e known. not_usage asked (number_of s) done.ends e;
  other_words = λ other. absurd (other (asked, asks));
  usage = λ e. absurd (not_usage asked (number_of s) done.ends e);
  other_output = λ other. absurd (other (asked, asks));
  unread = unread;
  unused = λ other. absurd (other (asked, asks));
  did = alone done;
  read_cause = λ e. (read-cause-from s old.input.reads_failed new.input.reads_failed e reads).1;
  reads_stay = λ e. reads-stay-from s old.input.reads_failed new.input.reads_failed e reads;
  write_cause = λ e. (write-cause-from s old.output.writes_failed new.output.writes_failed e writes).1;
  writes_stay = λ e u. writes-stay-from s old.output.writes_failed new.output.writes_failed e u writes;
  listener_cause = λ e. let ran = done.ran in listener-from asked found old new ran.0 ran.2 (one_status ran.0 status.NoListener (sym ran.1 ∙ e));
}

-- what is said of words that ask for no command
pub answered-other : (words : List (List ℕ)) (found : Option (List Entry)) (old new : Outside) (s : Status) → (IsCommand words → ⊥) → (s ≡ status.Usage) ⊎ (s ≡ status.NoMemory)
    → (s ≡ status.Usage → (missing : List ℕ) × WroteUsage old.output.output new.output.output missing × ((missing ≡ []) ⊎ HasRisen old.output.writes_failed new.output.writes_failed))
    → ((missing : List ℕ) × WroteUsage old.output.output new.output.output missing) → CountsWrites old.output.writes_failed new.output.writes_failed s → new.input ≡ old.input → new.host ≡ old.host → Answered words found old new (number_of s)
answered-other words found old new s none (inl is) wrote front writes input host = subst (λ (u : Status). Answered words found old new (number_of u)) (sym is) (record {
  statuses = omega arith;
  words = λ e known. none known;
  other_words = λ other. inl refl;
  usage = λ e. wrote is;
  other_output = λ other. front;
  unread = λ other. input;
  unused = λ other. host;
  did = λ asked asks. absurd (none (asked, asks));
  read_cause = λ e. absurd (omega (arith, e));
  reads_stay = λ e. ap (λ (i : Stream). i.reads_failed) input;
  write_cause = λ e. absurd (omega (arith, e));
  writes_stay = λ e u. absurd (u refl);
  listener_cause = λ e. absurd (omega (arith, e));
})
answered-other words found old new s none (inr is) wrote front writes input host = subst (λ (u : Status). Answered words found old new (number_of u)) (sym is) (record {
  statuses = omega arith;
  words = λ e known. none known;
  other_words = λ other. inr refl;
  usage = λ e. absurd (omega (arith, e));
  other_output = λ other. front;
  unread = λ other. input;
  unused = λ other. host;
  did = λ asked asks. absurd (none (asked, asks));
  read_cause = λ e. absurd (omega (arith, e));
  reads_stay = λ e. ap (λ (i : Stream). i.reads_failed) input;
  write_cause = λ e. absurd (omega (arith, e));
  writes_stay = λ e u. subst (λ (u : Status). CountsWrites old.output.writes_failed new.output.writes_failed u) is writes;
  listener_cause = λ e. absurd (omega (arith, e));
})

-- what is said where no memory was found to read the words
pub answered-nothing : (words : List (List ℕ)) (found : Option (List Entry)) (o : Outside) → Answered words found o o 7
answered-nothing words found o = record {
  statuses = omega arith;
  words = λ e. absurd (omega (arith, e));
  other_words = λ other. inr refl;
  usage = λ e. absurd (omega (arith, e));
  other_output = λ other. (usage, ([], put-nothing o.output.output, refl));
  unread = λ other. refl;
  unused = λ other. refl;
  did = λ asked asks. did-nothing asked found o;
  read_cause = λ e. absurd (omega (arith, e));
  reads_stay = λ e. refl;
  write_cause = λ e. absurd (omega (arith, e));
  writes_stay = λ e u. refl;
  listener_cause = λ e. absurd (omega (arith, e));
}

-- a status and its number
pub with_number : {words : List (List ℕ)} {found : Option (List Entry)} {old new : Outside} {n m : ℕ} → m ≡ n → Answered words found old new n → Answered words found old new m
with_number {words} {found} {old} {new} e a = subst (λ (k : ℕ). Answered words found old new k) (sym e) a

-- ---- of a command

-- nothing was read where other words were given, or no store was opened
pub either-unread : {A B X : Type 0} → A → (B → X) → ((A → ⊥) ⊎ B) → X
either-unread a f (inl other) = absurd (other a)
either-unread a f (inr b) = f b

-- the same folder, by its name
pub named-as : {dir dir' : Option (List ℕ)} {P : Type 0} (old new : Option (List (List ℕ))) → dir ≡ dir' → Names old new dir P → Names old new dir' P
named-as {dir} {dir'} {P} old new is named = subst (λ (d : Option (List ℕ)). Names old new d P) is named

-- the lines that `gen` is asked for are few
pub gen_few : (number lines : ℕ) (words : List (List ℕ)) → Asks (command.Gen number lines) words → lines ≤ MAX_GEN_LINES
gen_few number lines words (pieces, spelled, (folder, connections, said, folders, counts, fronts, (none, alone, silent, low, some, few, are))) = few
