-- What is appended piece by piece, and messages that are ended.
use Rattle.std.proofs.Common.{◌≡◌, ℕ, ◌+◌, ◌-◌, ◌≤◌, List, [], ◌∷◌, ◌++◌, length, take, drop, sym, ap, ◌∙◌, append_assoc, length-append, arith}
use Rattle.std.proofs.lemmas.List.{drop-drop, drop_at, take_at}
use Rattle.qd_pgwire.specs.Messages.{message, u32_bytes}

-- a first piece behind others
pub first_then : (begun piece out after : List ℕ) → out ≡ begun → after ≡ out ++ piece → after ≡ begun ++ piece
first_then begun piece out after is more = more ∙ ap (λ t. t ++ piece) is

-- a piece behind others
pub and_then : (before pieces piece out after : List ℕ) → out ≡ before ++ pieces → after ≡ out ++ piece → after ≡ before ++ (pieces ++ piece)
and_then before pieces piece out after so_far more = more ∙ (ap (λ t. t ++ piece) so_far ∙ append_assoc before pieces piece)

-- a message whose length is written into its room
pub ended : (before body : List ℕ) (kind at len : ℕ) (old new : List ℕ) → at ≡ length before + 1 → old ≡ (before ++ kind ∷ 0 ∷ 0 ∷ 0 ∷ 0 ∷ []) ++ body → len ≡ length old - at
    → new ≡ take at old ++ (u32_bytes len ++ drop (at + 4) old) → new ≡ before ++ message kind body
ended before body kind at len old new place is size wrote =
    let hole : List ℕ = 0 ∷ 0 ∷ 0 ∷ 0 ∷ [] in
    let front : List ℕ = before ++ kind ∷ [] in
    let begun : List ℕ = before ++ kind ∷ hole in
    let long_front : length front ≡ at = omega (arith, length-append before (kind ∷ [])) in
    let long_begun : length begun ≡ at + 4 = omega (arith, length-append before (kind ∷ hole)) in
    let split : old ≡ front ++ (hole ++ body) = is ∙ (append_assoc before (kind ∷ hole) body ∙ sym (append_assoc before (kind ∷ []) (hole ++ body))) in
    let taken : take at old ≡ front = ap (take at) split ∙ take_at front (hole ++ body) at long_front in
    let left : drop (at + 4) old ≡ body = ap (drop (at + 4)) is ∙ drop_at begun body (at + 4) long_begun in
    let whole : len ≡ 4 + length body = omega (arith, ap length is, length-append begun body) in
    wrote
    ∙ (ap (λ (t : List ℕ). t ++ (u32_bytes len ++ drop (at + 4) old)) taken
    ∙ (ap (λ (t : List ℕ). front ++ (u32_bytes len ++ t)) left
    ∙ (ap (λ (n : ℕ). front ++ (u32_bytes n ++ body)) whole ∙ append_assoc before (kind ∷ []) (u32_bytes (4 + length body) ++ body))))

-- behind its first bytes there is room for a message's length
pub room_for : (out body after : List ℕ) (kind at : ℕ) → at ≡ length out + 1 → after ≡ (out ++ kind ∷ 0 ∷ 0 ∷ 0 ∷ 0 ∷ []) ++ body → at + 4 ≤ length after
room_for out body after kind at place is =
    omega (arith, ap length is, length-append (out ++ kind ∷ 0 ∷ 0 ∷ 0 ∷ 0 ∷ []) body, length-append out (kind ∷ 0 ∷ 0 ∷ 0 ∷ 0 ∷ []))

-- the same, as the vector that was written into is seen
pub ended_in : (before body : List ℕ) (kind at len n : ℕ) (items d part : List ℕ) → at ≡ length before + 1 → items ≡ (before ++ kind ∷ 0 ∷ 0 ∷ 0 ∷ 0 ∷ []) ++ body → d ≡ items → part ≡ u32_bytes len
    → len ≡ length items - at → n ≡ length items
    → take n ((take at d ++ (part ++ drop (at + 4 - at) (drop at d))) ++ drop (length (take at d ++ (part ++ drop (at + 4 - at) (drop at d)))) items) ≡ before ++ message kind body
ended_in before body kind at len n items d part place is same wrote size all =
    let x : List ℕ = take at d ++ (part ++ drop (at + 4 - at) (drop at d)) in
    let four : at + (at + 4 - at) ≡ at + 4 = omega arith in
    let left : drop (at + 4 - at) (drop at d) ≡ drop (at + 4) items =
    drop-drop (at + 4 - at) at d ∙ (ap (λ k. drop k d) four ∙ ap (drop (at + 4)) same) in
    let whole : x ≡ take at items ++ (u32_bytes len ++ drop (at + 4) items) =
    ap (λ (t : List ℕ). take at t ++ (part ++ drop (at + 4 - at) (drop at d))) same
    ∙ (ap (λ (t : List ℕ). take at items ++ (t ++ drop (at + 4 - at) (drop at d))) wrote
    ∙ ap (λ (t : List ℕ). take at items ++ (u32_bytes len ++ t)) left) in
    let done : x ≡ before ++ message kind body = ended before body kind at len items x place is size whole in
    let long : length x ≡ n =
    omega (arith, ap length done, length-append before (message kind body), length-append (u32_bytes (4 + length body)) body, ap length is, length-append (before ++ kind ∷ 0 ∷ 0 ∷ 0 ∷ 0 ∷ []) body, length-append before (kind ∷ 0 ∷ 0 ∷ 0 ∷ 0 ∷ [])) in
    take_at x (drop (length x) items) n long ∙ done
