-- What stands at the front of bytes, when more come behind them, and where it lies.
use Rattle.std.proofs.Common.{◌≡◌, ℕ, ◌+◌, ◌-◌, ◌<◌, ◌≤◌, ◌⊎◌, inl, inr, Bool, true, false, List, [], ◌∷◌, ◌++◌, length, take, drop, refl, sym, ap, ◌∙◌, subst, arith, length-append, Option, Some, None}
use Rattle.std.specs.Prelude.{◌&&◌, ◌||◌, ◌==◌, nat_lt, nat_le, if◌then◌else◌, slice_index}
use Rattle.std.specs.Int.{w32, from_be_bytes}
use Rattle.std.proofs.lemmas.Bool.{cases_lt, lt-ltb, le-ltb, ltb-false, leb-true}
use Rattle.std.proofs.lemmas.List.{take-append-le, drop-append-le, length-drop, length-take}
use Rattle.qd_pgwire.specs.declared.limits.TheConstants.{CANCEL_CODE, ENCRYPT_CODE, GSS_CODE, MAX_MESSAGE_LENGTH, MAX_START_LENGTH, MIN_START_LENGTH, PROTOCOL_CODE}
use Rattle.qd_pgwire.specs.declared.found.Kind.{Kind}
use Rattle.qd_pgwire.specs.declared.found.Kind.TheVariants as kind
use Rattle.qd_pgwire.specs.declared.found.Mode.{Mode}
use Rattle.qd_pgwire.specs.declared.found.Mode.TheVariants as mode
use Rattle.qd_pgwire.specs.declared.found.Found.{Found}
use Rattle.qd_pgwire.specs.declared.found.Found.TheVariants as found
use Rattle.qd_pgwire.specs.Messages.{between, first, first_message, first_start, is_string, kind_of, message_with, names_parameters, start_with, text_in, u32_at, whole_of}
use Rattle.qd_pgwire.specs.Reading.{Fits}

-- ---- more behind

-- it is too short, or it stays
abbrev pub Stays : (before after : Found) → Type 0
Stays before after = (before ≡ found.Short) ⊎ (after ≡ before)

stays_by : (a b c d : Found) → a ≡ c → b ≡ d → Stays c d → Stays a b
stays_by a b c d e f (inl h) = inl (e ∙ h)
stays_by a b c d e f (inr h) = inr (f ∙ (h ∙ sym e))

once : (b : Bool) (x v w : Found) → Stays v w → Stays (if b then x else v) (if b then x else w)
once true x v w h = inr refl
once false x v w h = h

-- a test on a length
room : (there size : ℕ) (x : Found) → size ≤ there → (if nat_lt there size then found.Short else x) ≡ x
room there size x enough = ap (λ b. if b then found.Short else x) (le-ltb there size enough)

no_room : (there size : ℕ) (x : Found) → there < size → (if nat_lt there size then found.Short else x) ≡ found.Short
no_room there size x less = ap (λ b. if b then found.Short else x) (lt-ltb there size less)

room_more : (there more size : ℕ) (x y : Found) → (size ≤ there → y ≡ x) → Stays (if nat_lt there size then found.Short else x) (if nat_lt (there + more) size then found.Short else y)
room_more there more size x y same =
    elim (cases_lt there size) [
      | inl less ↦ inl (no_room there size x less)
      | inr enough ↦ inr (room (there + more) size y (omega arith) ∙ (same enough ∙ sym (room there size x enough)))
    ]

start_more : (len code there more : ℕ) → Stays (start_with len code there) (start_with len code (there + more))
start_more len code there more =
    once (code == CANCEL_CODE) _ _ _
    (once ((code == ENCRYPT_CODE || code == GSS_CODE) && len == 8) _ _ _
    (thrice (code == PROTOCOL_CODE && nat_le MIN_START_LENGTH len && nat_le len MAX_START_LENGTH) _ _ _
    (room_more there more len (found.Whole (kind.Start (names_parameters len)) len) (found.Whole (kind.Start (names_parameters len)) len) (λ _. refl))))
  where
    thrice : (b : Bool) (x v w : Found) → Stays v w → Stays (if b then v else x) (if b then w else x)
    thrice true x v w h = h
    thrice false x v w h = inr refl

word_more : (bytes more : List ℕ) → 4 ≤ length bytes → from_be_bytes w32 (bytes ++ more) ≡ from_be_bytes w32 bytes
word_more [] more long = absurd (omega arith)
word_more (a ∷ []) more long = absurd (omega arith)
word_more (a ∷ b ∷ []) more long = absurd (omega arith)
word_more (a ∷ b ∷ c ∷ []) more long = absurd (omega arith)
word_more (a ∷ b ∷ c ∷ d ∷ bytes) more long = refl

u32_more : (at : ℕ) (bytes more : List ℕ) → at + 4 ≤ length bytes → u32_at at (bytes ++ more) ≡ u32_at at bytes
u32_more at bytes more long =
    ap (from_be_bytes w32) (drop-append-le at bytes more (omega arith)) ∙ word_more (drop at bytes) more (omega (arith, length-drop at bytes))

byte_more : (bytes more : List ℕ) → 0 < length bytes → slice_index (bytes ++ more) 0 ≡ slice_index bytes 0
byte_more [] more some = absurd (omega arith)
byte_more (b ∷ bytes) more some = refl

pub between_more : (start end : ℕ) (bytes more : List ℕ) → end ≤ length bytes → between start end (bytes ++ more) ≡ between start end bytes
between_more start end bytes more within =
    elim (cases_lt (length bytes) start) [
      | inl past ↦
          let none : end - start ≡ 0 = omega arith in
          ap (λ n. take n (drop start (bytes ++ more))) none ∙ sym (ap (λ n. take n (drop start bytes)) none)
      | inr before ↦
          ap (take (end - start)) (drop-append-le start bytes more before)
          ∙ take-append-le (end - start) (drop start bytes) more (omega (arith, length-drop start bytes))
    ]

first_start_more : (bytes more : List ℕ) → Stays (first_start bytes) (first_start (bytes ++ more))
first_start_more bytes more =
    elim (cases_lt (length bytes) 8) [
      | inl less ↦ inl (no_room (length bytes) 8 (start_with (u32_at 0 bytes) (u32_at 4 bytes) (length bytes)) less)
      | inr long ↦
          stays_by (first_start bytes) (first_start (bytes ++ more)) (start_with (u32_at 0 bytes) (u32_at 4 bytes) (length bytes)) (start_with (u32_at 0 bytes) (u32_at 4 bytes) (length bytes + length more))
          (room (length bytes) 8 (start_with (u32_at 0 bytes) (u32_at 4 bytes) (length bytes)) long)
          (room (length (bytes ++ more)) 8 (start_with (u32_at 0 (bytes ++ more)) (u32_at 4 (bytes ++ more)) (length (bytes ++ more))) (omega (arith, length-append bytes more))
          ∙ (ap (λ n. start_with n (u32_at 4 (bytes ++ more)) (length (bytes ++ more))) (u32_more 0 bytes more (omega arith))
          ∙ (ap (λ n. start_with (u32_at 0 bytes) n (length (bytes ++ more))) (u32_more 4 bytes more (omega arith))
          ∙ ap (λ n. start_with (u32_at 0 bytes) (u32_at 4 bytes) n) (length-append bytes more))))
          (start_more (u32_at 0 bytes) (u32_at 4 bytes) (length bytes) (length more))
    ]

message_more : (o : Option Kind) (len : ℕ) (bytes more : List ℕ) → Stays (message_with o len bytes) (message_with o len (bytes ++ more))
message_more None len bytes more = inr refl
message_more (Some k) len bytes more =
    once (nat_lt len 4 || nat_lt MAX_MESSAGE_LENGTH len) found.Wrong _ _
    (subst (λ n. Stays (if nat_lt (length bytes) (1 + len) then found.Short else whole_of k (1 + len) (between 5 (1 + len) bytes)) (if nat_lt n (1 + len) then found.Short else whole_of k (1 + len) (between 5 (1 + len) (bytes ++ more)))) (sym (length-append bytes more))
    (room_more (length bytes) (length more) (1 + len) (whole_of k (1 + len) (between 5 (1 + len) bytes)) (whole_of k (1 + len) (between 5 (1 + len) (bytes ++ more)))
    (λ enough. ap (whole_of k (1 + len)) (between_more 5 (1 + len) bytes more enough))))

first_message_more : (bytes more : List ℕ) → Stays (first_message bytes) (first_message (bytes ++ more))
first_message_more bytes more =
    elim (cases_lt (length bytes) 5) [
      | inl less ↦ inl (no_room (length bytes) 5 (message_with (kind_of (slice_index bytes 0)) (u32_at 1 bytes) bytes) less)
      | inr long ↦
          stays_by (first_message bytes) (first_message (bytes ++ more)) (message_with (kind_of (slice_index bytes 0)) (u32_at 1 bytes) bytes) (message_with (kind_of (slice_index bytes 0)) (u32_at 1 bytes) (bytes ++ more))
          (room (length bytes) 5 (message_with (kind_of (slice_index bytes 0)) (u32_at 1 bytes) bytes) long)
          (room (length (bytes ++ more)) 5 (message_with (kind_of (slice_index (bytes ++ more) 0)) (u32_at 1 (bytes ++ more)) (bytes ++ more)) (omega (arith, length-append bytes more))
          ∙ (ap (λ b. message_with (kind_of b) (u32_at 1 (bytes ++ more)) (bytes ++ more)) (byte_more bytes more (omega arith))
          ∙ ap (λ n. message_with (kind_of (slice_index bytes 0)) n (bytes ++ more)) (u32_more 1 bytes more (omega arith))))
          (message_more (kind_of (slice_index bytes 0)) (u32_at 1 bytes) bytes more)
    ]

first_more : (m : Mode) (bytes more : List ℕ) → Stays (first m bytes) (first m (bytes ++ more))
first_more mode.Starting bytes more = first_start_more bytes more
first_more mode.Ready bytes more = first_message_more bytes more
first_more mode.Skipping bytes more = first_message_more bytes more

stays_wrong : (a b : Found) → Stays a b → a ≡ found.Wrong → b ≡ found.Wrong
stays_wrong a b (inl h) e = absurd (cc)
stays_wrong a b (inr h) e = h ∙ e

stays_whole : (a b : Found) (k : Kind) (size : ℕ) → Stays a b → a ≡ found.Whole k size → b ≡ found.Whole k size
stays_whole a b k size (inl h) e = absurd (cc)
stays_whole a b k size (inr h) e = h ∙ e

pub wrong_more : (m : Mode) (bytes more : List ℕ) → first m bytes ≡ found.Wrong → first m (bytes ++ more) ≡ found.Wrong
wrong_more m bytes more e = stays_wrong (first m bytes) (first m (bytes ++ more)) (first_more m bytes more) e

pub whole_more : (m : Mode) (bytes more : List ℕ) (k : Kind) (size : ℕ) → first m bytes ≡ found.Whole k size → first m (bytes ++ more) ≡ found.Whole k size
whole_more m bytes more k size e = stays_whole (first m bytes) (first m (bytes ++ more)) k size (first_more m bytes more) e

-- ---- where it lies

pick : (P : Found → Type 0) (b : Bool) (x y : Found) → (b ≡ true → P x) → (b ≡ false → P y) → P (if b then x else y)
pick P true x y yes_ no_ = yes_ refl
pick P false x y yes_ no_ = no_ refl

middle : (a b c : Bool) → (a && b && c) ≡ true → (b ≡ true) × (c ≡ true)
middle true true true e = (refl, refl)
middle true true false e = absurd (cc)
middle true false c e = absurd (cc)
middle false b c e = absurd (cc)

neither : (a b : Bool) → (a || b) ≡ false → (a ≡ false) × (b ≡ false)
neither true b e = absurd (cc)
neither false true e = absurd (cc)
neither false false e = (refl, refl)

start_fits : (len code : ℕ) (bytes : List ℕ) → 8 ≤ length bytes → Fits bytes (start_with len code (length bytes))
start_fits len code bytes long =
    pick (Fits bytes) (code == CANCEL_CODE) _ _ (λ _. (omega arith, omega arith, omega arith))
    (λ _. pick (Fits bytes) ((code == ENCRYPT_CODE || code == GSS_CODE) && len == 8) _ _ (λ _. (omega arith, omega arith, omega arith))
    (λ _. pick (Fits bytes) (code == PROTOCOL_CODE && nat_le MIN_START_LENGTH len && nat_le len MAX_START_LENGTH) _ _
    (λ ok. pick (Fits bytes) (nat_lt (length bytes) len) _ _ (λ _. tt)
    (λ enough.
    let tests = middle (code == PROTOCOL_CODE) (nat_le MIN_START_LENGTH len) (nat_le len MAX_START_LENGTH) ok in
    (omega (arith, leb-true MIN_START_LENGTH len tests.0), ltb-false (length bytes) len enough, omega (arith, leb-true len MAX_START_LENGTH tests.1))))
    (λ _. tt)))

-- a query has a zero byte
string_some : (bytes : List ℕ) → is_string bytes ≡ true → 0 < length bytes
string_some [] e = absurd (cc)
string_some (b ∷ bytes) e = omega arith

body_short : (size : ℕ) (bytes : List ℕ) → 0 < length (between 5 size bytes) → 6 ≤ size
body_short size bytes some = omega (arith, length-take (size - 5) (drop 5 bytes))

whole_fits : (k : Kind) (size : ℕ) (bytes : List ℕ) → 5 ≤ size → size ≤ length bytes → size ≤ 65542 → Fits bytes (whole_of k size (between 5 size bytes))
whole_fits kind.Query size bytes least within most =
    pick (Fits bytes) (is_string (between 5 size bytes)) _ _ (λ ok. (body_short size bytes (string_some (between 5 size bytes) ok), within, most)) (λ _. tt)
whole_fits (kind.Start names) size bytes least within most = (least, within, most)
whole_fits kind.Encrypt size bytes least within most = (least, within, most)
whole_fits kind.Cancel size bytes least within most = (least, within, most)
whole_fits kind.Extended size bytes least within most = (least, within, most)
whole_fits kind.Flush size bytes least within most = (least, within, most)
whole_fits kind.Sync size bytes least within most = (least, within, most)
whole_fits kind.Terminate size bytes least within most = (least, within, most)

message_fits : (o : Option Kind) (len : ℕ) (bytes : List ℕ) → Fits bytes (message_with o len bytes)
message_fits None len bytes = tt
message_fits (Some k) len bytes =
    pick (Fits bytes) (nat_lt len 4 || nat_lt MAX_MESSAGE_LENGTH len) _ _ (λ _. tt)
    (λ ok. pick (Fits bytes) (nat_lt (length bytes) (1 + len)) _ _ (λ _. tt)
    (λ enough.
    let tests = neither (nat_lt len 4) (nat_lt MAX_MESSAGE_LENGTH len) ok in
    whole_fits k (1 + len) bytes (omega (arith, ltb-false len 4 tests.0)) (ltb-false (length bytes) (1 + len) enough) (omega (arith, ltb-false MAX_MESSAGE_LENGTH len tests.1))))

first_start_fits : (bytes : List ℕ) → Fits bytes (first_start bytes)
first_start_fits bytes =
    pick (Fits bytes) (nat_lt (length bytes) 8) _ _ (λ _. tt) (λ long. start_fits (u32_at 0 bytes) (u32_at 4 bytes) bytes (ltb-false (length bytes) 8 long))

first_message_fits : (bytes : List ℕ) → Fits bytes (first_message bytes)
first_message_fits bytes =
    pick (Fits bytes) (nat_lt (length bytes) 5) _ _ (λ _. tt) (λ _. message_fits (kind_of (slice_index bytes 0)) (u32_at 1 bytes) bytes)

pub first_fits : (m : Mode) (bytes : List ℕ) → Fits bytes (first m bytes)
first_fits mode.Starting bytes = first_start_fits bytes
first_fits mode.Ready bytes = first_message_fits bytes
first_fits mode.Skipping bytes = first_message_fits bytes

pub whole_lies : (m : Mode) (bytes : List ℕ) (k : Kind) (size : ℕ) → first m bytes ≡ found.Whole k size → Fits bytes (found.Whole k size)
whole_lies m bytes k size is = subst (Fits bytes) is (first_fits m bytes)

pub least_of : (k : Kind) (size : ℕ) (bytes : List ℕ) → Fits bytes (found.Whole k size) → 5 ≤ size
least_of kind.Query size bytes h = omega (arith, h.0)
least_of (kind.Start names) size bytes h = h.0
least_of kind.Encrypt size bytes h = h.0
least_of kind.Cancel size bytes h = h.0
least_of kind.Extended size bytes h = h.0
least_of kind.Flush size bytes h = h.0
least_of kind.Sync size bytes h = h.0
least_of kind.Terminate size bytes h = h.0

pub text_more : (size : ℕ) (bytes more : List ℕ) → size ≤ length bytes → text_in size (bytes ++ more) ≡ text_in size bytes
text_more size bytes more within = between_more 5 (size - 1) bytes more (omega arith)
