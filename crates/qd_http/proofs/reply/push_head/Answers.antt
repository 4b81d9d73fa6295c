use Rattle.std.proofs.Common.{◌≡◌, ℕ, List, ◌∷◌, [], ◌++◌, ap, ◌∙◌, append_assoc}
use Rattle.std.specs.Prelude.{codes}
use Rattle.std.specs.Fmt.{decimal}
use Rattle.qd_http.specs.Responses.{status_text}
use Rattle.qd_http.proofs.AppendLemmas.{and_then}
use Rattle.qd_http.proofs.reply.push_head.Goals as goal

regroup : (o a s e t l d : List ℕ) → o ++ ((((a ++ s) ++ (e ++ (t ++ (e ++ l)))) ++ d) ++ (e ++ e)) ≡ o ++ (((((a ++ s) ++ e) ++ (t ++ e)) ++ ((l ++ d) ++ e)) ++ e)
regroup o a s e t l d = simp append_assoc

pub returns : goal.returns
returns c =
    let out = c.args.out.now.items in
    let end : List ℕ = 13 ∷ 10 ∷ [] in
    let kind = codes "Content-Type: application/json; charset=utf-8" in
    let size = codes "Content-Length: " in
    let state = status_text c.args.status in
    let number = decimal c.args.len in
    let start : List ℕ = codes "HTTP/1.1 " in
    let second = c.in_ok-extend_from_slice-2.ensures.items ∙ ap (λ t. c.extend_from_slice.new.self.items ++ t) c.text.ensures in
    let p1 = and_then out start state _ _ c.in_ok-extend_from_slice.ensures.items second in
    let middle : List ℕ = end ++ (kind ++ (end ++ size)) in
    let p2 = and_then out (start ++ state) middle _ _ p1 c.in_ok-extend_from_slice-3.ensures.items in
    let p3 = and_then out ((start ++ state) ++ middle) number _ _ p2 c.in_ok-push_number.ensures in
    and_then out (((start ++ state) ++ middle) ++ number) (end ++ end) _ _ p3 c.in_ok-extend_from_slice-4.ensures.items ∙ regroup out start state end kind size number
