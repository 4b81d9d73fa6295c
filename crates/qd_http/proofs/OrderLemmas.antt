-- What a head asks, from its parts.
use Rattle.std.proofs.Common.{◌≡◌, ℕ, ◌==◌, ◌||◌, Bool, List, [], ◌++◌, length, map, drop, sym, ap, ◌∙◌, subst, inr, Some, option_copied, Result, Ok, Err, IfOk}
use Rattle.std.proofs.lemmas.List.{append-nil, length-map}
use Rattle.std.specs.List.{list_any}
use Rattle.httparse.specs.Borrowed.{header_parts, HoldsRequest}
use Rattle.httparse.specs.Grammar.{RequestHead, ReadsRequest}
use Rattle.httparse.specs.declared.borrowed.Request.{Request}
use Rattle.qd_http.specs.declared.head.Head.{Head}
use Rattle.qd_http.specs.declared.wanted.Wanted.{Wanted}
use Rattle.qd_http.specs.Fields.{body_size, closes, is_close}
use Rattle.qd_http.specs.Targets.{wanted_of}
use Rattle.qd_http.specs.Reading.{EndsWithHead, HasParts, IsOrderOf, OrdersBy, ReadsHead}
use Rattle.qd_http.proofs.FieldLemmas.{list_any-map}
use Rattle.qd_http.proofs.HeadLemmas.{reads_all}

some_injective : {A : Type 0} (x y : A) → Some x ≡ Some y → x ≡ y
some_injective x y e = cc

-- a head has as many fields as headers were read
pub fields_count : (request : Request) (len : ℕ) (head : RequestHead) → HasParts request len head → length head.fields ≡ length request.headers.now
fields_count request len head parts =
    sym (length-map head.fields _) ∙ (ap length (sym parts.fields) ∙ length-map request.headers.now header_parts)

pub order_of : (request : Request) (len : ℕ) (head : RequestHead) (wanted : Wanted) (body minor : ℕ) (last : Bool) (method path : List ℕ) → HasParts request len head
    → option_copied request.method ≡ Some method → option_copied request.path ≡ Some path → request.version ≡ Some minor
    → wanted ≡ wanted_of method path → Some body ≡ body_size (map header_parts request.headers.now) → last ≡ (minor == 0 || list_any (λ f. is_close (header_parts f)) request.headers.now)
    → IsOrderOf (record { wanted = wanted; head = len; body = body; last = last }) head
order_of request len head wanted body minor last method path parts m p v asks size ends =
    let method_is : method ≡ head.method = some_injective method head.method (sym m ∙ parts.method) in
    let path_is : path ≡ head.target = some_injective path head.target (sym p ∙ parts.path) in
    let minor_is : minor ≡ head.minor = some_injective minor head.minor (sym v ∙ parts.version) in
    record {
      wanted = asks ∙ (ap (λ t. wanted_of t path) method_is ∙ ap (λ t. wanted_of head.method t) path_is);
      size = parts.len_is;
      body = ap body_size (sym parts.fields) ∙ sym size;
      last = ends ∙ (ap (λ n. n == 0 || list_any (λ f. is_close (header_parts f)) request.headers.now) minor_is
          ∙ ap (λ b. head.minor == 0 || b) (sym (list_any-map is_close header_parts request.headers.now) ∙ ap closes parts.fields));
    }

-- what was read of the bytes up to an empty line is what they are
pub head_read : (bytes : List ℕ) (request : Request) (len : ℕ) (head : RequestHead) (what : Head) → EndsWithHead bytes → HoldsRequest bytes len request head → OrdersBy head what → ReadsHead bytes what
head_read bytes request len head what ends held asks =
    let same : bytes ++ [] ≡ bytes = append-nil bytes in
    inr (head, reads_all bytes [] head (drop len bytes) ends (subst (λ t. ReadsRequest t head (drop len bytes)) (sym same) held.reads), asks)

pub parts_of : (bytes : List ℕ) (request : Request) (len : ℕ) (head : RequestHead) → HoldsRequest bytes len request head → HasParts request len head
parts_of bytes request len head held = record { len_is = held.len_is; method = held.method; path = held.path; version = held.version; fields = held.fields }

pub if_read : {E : Type 0} (bytes : List ℕ) (request : Request) (len : ℕ) (r : Result Head E) → EndsWithHead bytes → (head : RequestHead) → HoldsRequest bytes len request head
    → IfOk r (OrdersBy head) → IfOk r (ReadsHead bytes)
if_read bytes request len (Ok what) ends head held asks = head_read bytes request len head what ends held asks
if_read bytes request len (Err e) ends head held asks = tt
