use Rattle.std.proofs.Common.{◌≡◌, ◌-◌, ◌++◌, length, ap, ◌∙◌, arith, length-append, vec_len}
use Rattle.qd_http.specs.Responses.{head_text}
use Rattle.qd_http.proofs.AppendLemmas.{turned}
use Rattle.qd_http.proofs.reply.response.Goals as goal

pub returns : goal.returns
returns c =
    let body = c.args.body.items in
    let printed = c.push_head.new.out in
    let size : c.len-len.result ≡ length body = omega (arith, c.len-len.ensures, c.args.body.ok.0) in
    let is : printed.items ≡ body ++ head_text c.args.status (length body) = c.in_ok-push_head.ensures ∙ ap (λ n. body ++ head_text c.args.status n) size in
    let cut : vec_len printed - (c.len.result - c.len-len.result) ≡ length body =
    omega (arith, size, c.len.ensures, printed.ok.0, ap length is, length-append body (head_text c.args.status (length body))) in
    c.from_vec.ensures.same ∙ turned body (head_text c.args.status (length body)) printed.items c.rotate_right.new.self.items (vec_len printed - (c.len.result - c.len-len.result)) is cut c.rotate_right.ensures.items
