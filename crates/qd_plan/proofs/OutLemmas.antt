-- The output columns of some items, one more after others.
use Rattle.std.proofs.Common.{◌≡◌, ℕ, suc, List, [], ◌∷◌, ◌++◌, length, map, refl, sym, ap, ap₂, ◌∙◌, arith, append-nil, append_assoc}
use Rattle.std.specs.List.{zip}
use Rattle.std.proofs.lemmas.List.{map-append}
use Rattle.qd_base.specs.declared.schema.ColType.{ColType}
use Rattle.qd_meaning.specs.Outputs.{made_new, names_from, output_names}
use Rattle.qd_meaning.specs.Items.{Shows, columns_of, output_column}
use Rattle.qd_plan.specs.Names.{names}

-- ---- the columns of some items

pub same_length : (taken ns : List (List ℕ)) → length (names_from taken ns) ≡ length ns
same_length taken [] = refl
same_length taken (n ∷ ns) = ap suc (same_length (taken ++ made_new taken n ∷ []) ns)

pub names_more : (taken ns : List (List ℕ)) (n : List ℕ) → names_from taken (ns ++ n ∷ []) ≡ names_from taken ns ++ made_new (taken ++ names_from taken ns) n ∷ []
names_more taken [] n = ap (λ (t : List (List ℕ)). made_new t n ∷ []) (sym (append-nil taken))
names_more taken (m ∷ ns) n =
    let name = made_new taken m in
    ap (λ (xs : List (List ℕ)). name ∷ xs) (names_more (taken ++ name ∷ []) ns n)
    ∙ ap (λ (t : List (List ℕ)). name ∷ (names_from (taken ++ name ∷ []) ns ++ made_new t n ∷ [])) (append_assoc taken (name ∷ []) (names_from (taken ++ name ∷ []) ns))

pub zip_more : {A B : Type 0} (xs : List A) (ys : List B) (x : A) (y : B) → length xs ≡ length ys → zip (xs ++ x ∷ []) (ys ++ y ∷ []) ≡ zip xs ys ++ (x, y) ∷ []
zip_more [] [] x y e = refl
zip_more [] (b ∷ bs) x y e = absurd (omega arith)
zip_more (a ∷ rest) [] x y e = absurd (omega arith)
zip_more (a ∷ more) (b ∷ bs) x y e = ap (λ (rest : List _). (a, b) ∷ rest) (zip_more more bs x y (omega arith))

pub firsts : (ns : List (List ℕ)) (ks : List ColType) → length ns ≡ length ks → names (map output_column (zip ns ks)) ≡ ns
firsts [] ks e = refl
firsts (n ∷ ns) [] e = absurd (omega arith)
firsts (n ∷ ns) (k ∷ ks) e = ap (λ (rest : List (List ℕ)). n ∷ rest) (firsts ns ks (omega arith))

pub map_length : {A B : Type 0} (f : A → B) (xs : List A) → length (map f xs) ≡ length xs
map_length f [] = refl
map_length f (x ∷ xs) = ap suc (map_length f xs)

pub columns_more : (items : List Shows) (s : Shows) → columns_of items ++ record { name = made_new (names (columns_of items)) s.name; kind = s.kind } ∷ [] ≡ columns_of (items ++ s ∷ [])
columns_more items s =
    let ns : List (List ℕ) = map (λ (i : Shows). i.name) items in
    let ks : List ColType = map (λ (i : Shows). i.kind) items in
    let size : length (output_names ns) ≡ length ks = same_length [] ns ∙ map_length (λ (i : Shows). i.name) items ∙ sym (map_length (λ (i : Shows). i.kind) items) in
    let name : List ℕ = made_new (output_names ns) s.name in
    ap (λ (taken : List (List ℕ)). columns_of items ++ record { name = made_new taken s.name; kind = s.kind } ∷ []) (firsts (output_names ns) ks size)
    ∙ sym (map-append output_column (zip (output_names ns) ks) ((name, s.kind) ∷ []))
    ∙ ap (map output_column) (sym (zip_more (output_names ns) ks name s.kind size))
    ∙ ap₂ (λ (xs : List (List ℕ)) (ys : List ColType). map output_column (zip xs ys)) (sym (names_more [] ns s.name)) (sym (map-append (λ (i : Shows). i.kind) items (s ∷ [])))
    ∙ ap (λ (xs : List (List ℕ)). map output_column (zip (output_names xs) (map (λ (i : Shows). i.kind) (items ++ s ∷ [])))) (sym (map-append (λ (i : Shows). i.name) items (s ∷ [])))
