-- What reads and writes do to a wire, in the words of a session.
use Rattle.std.proofs.Common.{◌≡◌, ℕ, ◌<◌, ◌≤◌, inl, inr, List, [], ◌++◌, length, take, drop, Option, Some, None, Result, Ok, Err, refl, sym, ◌∙◌, ap, subst, arith}
use Rattle.std.proofs.lemmas.List.{append_assoc, append-nil, take-append-drop}
use Rattle.qd_io.specs.Ends.{Counts, HasRisen, InputStays, OutputStays, Reads, Stream, WritesAll}
use Rattle.qd_io.specs.declared.fault.IoFault.{IoFault}
use Rattle.qd_io.specs.declared.fault.IoFault.TheVariants as fault
use Rattle.qd_session.specs.declared.ended.Ended.{Ended as EndedBy}
use Rattle.qd_session.specs.declared.ended.Ended.TheVariants as ended
use Rattle.qd_session.specs.Session.{CountsReads, CountsWrites, Faults, IsAllOf, IsOver, Moves, PutTo, TakenFrom}
use Rattle.qd_session.specs.Turns.{IsOut, Refuses, Said, WritesBy, WritesFront, Wrote, ended_by_write}

-- nothing was taken from an input that stays, and nothing was put to an output that stays
pub taken-none : (input input' : Option (List ℕ)) → input' ≡ input → TakenFrom input input' []
taken-none None input' e = tt
taken-none (Some bytes) input' e = (bytes, e, refl)

pub put-none : (output output' : Option (List ℕ)) → output' ≡ output → PutTo output output' []
put-none None output' e = tt
put-none (Some before) output' e = e ∙ ap Some (sym (append-nil before))

pub moves-none : (a : Stream) → Moves a a [] []
moves-none a = record { from = taken-none a.input a.input refl; to = put-none a.output a.output refl }

-- bytes taken and bytes put, one piece after another
pub taken-more : (a b c : Option (List ℕ)) (t p : List ℕ) → TakenFrom a b t → TakenFrom b c p → TakenFrom a c (t ++ p)
taken-more None b c t p h k = tt
taken-more (Some bytes) b c t p h k =
    let q : TakenFrom (Some h.0) c p = subst (λ (x : Option (List ℕ)). TakenFrom x c p) h.1 k in
    (q.0, q.1, h.2 ∙ ap (λ (x : List ℕ). t ++ x) q.2 ∙ sym (append_assoc t p q.0))

pub put-more : (a b c : Option (List ℕ)) (t p : List ℕ) → PutTo a b t → PutTo b c p → PutTo a c (t ++ p)
put-more None b c t p h k = tt
put-more (Some before) b c t p h k =
    let q : PutTo (Some (before ++ t)) c p = subst (λ (x : Option (List ℕ)). PutTo x c p) h k in
    q ∙ ap Some (append_assoc before t p)

pub moves-more : (a b c : Stream) (t p w v : List ℕ) → Moves a b t w → Moves b c p v → Moves a c (t ++ p) (w ++ v)
moves-more a b c t p w v h k = record { from = taken-more a.input b.input c.input t p h.from k.from; to = put-more a.output b.output c.output w v h.to k.to }

-- bytes put behind a move that took nothing, or took some and put nothing
pub moves-put : (a b c : Stream) (t w v : List ℕ) → Moves a b t w → Moves b c [] v → Moves a c t (w ++ v)
moves-put a b c t w v h k = subst (λ (x : List ℕ). Moves a c x (w ++ v)) (append-nil t) (moves-more a b c t [] w v h k)

pub moves-take : (a b c : Stream) (t p w : List ℕ) → Moves a b t w → Moves b c p [] → Moves a c (t ++ p) w
moves-take a b c t p w h k = subst (λ (x : List ℕ). Moves a c (t ++ p) x) (append-nil w) (moves-more a b c t p w [] h k)

-- what is left of an input is out, so all of it is taken
pub over-from_out : (a b : Option (List ℕ)) (t : List ℕ) (fed : ℕ) → TakenFrom a b t → length t ≡ fed → IsOut b fed → IsOver a t
over-from_out None b t fed h e (inl out) = inl tt
over-from_out (Some bytes) b t fed h e (inl out) =
    let q : IsAllOf (Some h.0) [] = subst (λ (x : Option (List ℕ)). IsAllOf x []) h.1 out in
    inl (h.2 ∙ ap (λ (x : List ℕ). t ++ x) q ∙ append-nil t)
over-from_out a b t fed h e (inr out) = inr (e ∙ out)

-- a write of all of the bytes, where the input stays
moves-from_put : (a b : Stream) (bytes : List ℕ) → InputStays a b → PutTo a.output b.output bytes → Moves a b [] bytes
moves-from_put a b bytes stays put = record { from = taken-none a.input b.input stays.input; to = put }

puts-all : (T E : Type 0) (before now : Option (List ℕ)) (bytes : List ℕ) (done : T) → WritesAll {T = T} {E = E} before now bytes (Ok done) → PutTo before now bytes
puts-all T E None now bytes done h = tt
puts-all T E (Some before) now bytes done h = h

puts-front : (T E : Type 0) (before now : Option (List ℕ)) (bytes : List ℕ) (e : E) → WritesAll {T = T} {E = E} before now bytes (Err e) → (written missing : List ℕ) × PutTo before now written × (bytes ≡ written ++ missing)
puts-front T E None now bytes e h = ([], bytes, tt, refl)
puts-front T E (Some before) now bytes e h = (take h.0 bytes, drop h.0 bytes, h.2, sym (take-append-drop h.0 bytes))

pub writes-by : {T : Type 0} (a b : Stream) (bytes : List ℕ) (r : Result T IoFault) → WritesAll a.output b.output bytes r → InputStays a b → WritesBy a b bytes r
writes-by {T} a b bytes (Ok done) h stays = moves-from_put a b bytes stays (puts-all T IoFault a.output b.output bytes done h)
writes-by {T} a b bytes (Err e) h stays =
    let p = puts-front T IoFault a.output b.output bytes e h in
    record { written = p.0; missing = p.1; moved = moves-from_put a b p.0 stays p.2; front = p.3 }

-- nothing was written, since nothing could be printed
pub writes-none : (a : Stream) (bytes : List ℕ) → WritesFront a a bytes
writes-none a bytes = record { written = []; missing = bytes; moved = moves-none a; front = refl }

-- a read of nothing into a buffer with room is the end
pub all-from_reads : {E : Type 0} (before now : Option (List ℕ)) (buffer : List ℕ) (r : Result ℕ E) → Reads before now buffer r → 0 < length buffer → r ≡ Ok 0 → IsAllOf before []
all-from_reads None now buffer r h room e = tt
all-from_reads (Some bytes) now buffer (Ok n) h room e = h.at_end (cc) room
all-from_reads {E} (Some bytes) now buffer (Err fault) h room e = absurd (cc)

-- counts of a call that answered, and of one that did not
pub faults-none : (a b : Stream) → b.reads_failed ≡ a.reads_failed → b.writes_failed ≡ a.writes_failed → b.input_lent ≡ a.input_lent → b.output_lent ≡ a.output_lent → Faults a b None
faults-none a b r w i o = record { reads = r; writes = w; input_lent = i; output_lent = o }

-- a write that was done counts nothing
pub faults-from_done : (T : Type 0) (a b : Stream) (done : T) → Counts {T = T} a.writes_failed b.writes_failed (Ok done) → InputStays a b → Faults a b None
faults-from_done T a b done h stays = record { reads = stays.reads_failed; writes = h; input_lent = stays.input_lent; output_lent = stays.output_lent }

-- a write that failed counts as the end that it makes
pub faults-from_write : (T : Type 0) (a b : Stream) (f : IoFault) → Counts {T = T} a.writes_failed b.writes_failed (Err f) → InputStays a b → Faults a b (Some (ended_by_write f))
faults-from_write T a b fault.Failed h stays = record { reads = stays.reads_failed; writes = h; input_lent = stays.input_lent; output_lent = stays.output_lent }
faults-from_write T a b fault.Memory h stays = record { reads = stays.reads_failed; writes = h; input_lent = stays.input_lent; output_lent = stays.output_lent }

-- before the end nothing is counted, so what is counted later is counted since before
reads-later : (a b c : ℕ) (how : Option EndedBy) → b ≡ a → CountsReads b c how → CountsReads a c how
reads-later a b c how e h = subst (λ (x : ℕ). CountsReads x c how) e h

writes-later : (a b c : ℕ) (how : Option EndedBy) → b ≡ a → CountsWrites b c how → CountsWrites a c how
writes-later a b c how e h = subst (λ (x : ℕ). CountsWrites x c how) e h

pub faults-later : (a b c : Stream) (how : Option EndedBy) → Faults a b None → Faults b c how → Faults a c how
faults-later a b c how h k = record {
  reads = reads-later a.reads_failed b.reads_failed c.reads_failed how h.reads k.reads;
  writes = writes-later a.writes_failed b.writes_failed c.writes_failed how h.writes k.writes;
  input_lent = k.input_lent ∙ h.input_lent;
  output_lent = k.output_lent ∙ h.output_lent;
}

-- a read that gave bytes, or none, or found no memory, counts nothing; one that failed counts
pub faults-from_read : (a b : Stream) (n : ℕ) → Counts {T = ℕ} a.reads_failed b.reads_failed (Ok n) → OutputStays a b → Faults a b None
faults-from_read a b n h stays = record { reads = h; writes = stays.writes_failed; input_lent = stays.input_lent; output_lent = stays.output_lent }

pub faults-from_failed_read : (a b : Stream) → Counts {T = ℕ} a.reads_failed b.reads_failed (Err fault.Failed) → OutputStays a b → Faults a b (Some ended.ReadFault)
faults-from_failed_read a b h stays = record { reads = h; writes = stays.writes_failed; input_lent = stays.input_lent; output_lent = stays.output_lent }

pub faults-from_no_memory : (a b : Stream) → Counts {T = ℕ} a.reads_failed b.reads_failed (Err fault.Memory) → OutputStays a b → Faults a b (Some ended.Memory)
faults-from_no_memory a b h stays = record { reads = h; writes = stays.writes_failed; input_lent = stays.input_lent; output_lent = stays.output_lent }

-- what was taken of an input, where the output stays
pub moves-from_taken : (a b : Stream) (bytes : List ℕ) → TakenFrom a.input b.input bytes → OutputStays a b → Moves a b bytes []
moves-from_taken a b bytes taken stays = record { from = taken; to = put-none a.output b.output stays.output }

-- bytes that weren't all written end the session
pub said-from_fault : (a b : Stream) (bytes : List ℕ) (f : IoFault) → WritesFront a b bytes → Said a b bytes (Some (ended_by_write f))
said-from_fault a b bytes fault.Failed h = h
said-from_fault a b bytes fault.Memory h = h

pub refuses-from_fault : (a b : Stream) (bytes : List ℕ) (f : IoFault) → WritesFront a b bytes → Refuses a b bytes (ended_by_write f)
refuses-from_fault a b bytes fault.Failed h = h
refuses-from_fault a b bytes fault.Memory h = h
