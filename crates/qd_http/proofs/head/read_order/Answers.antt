use Rattle.std.proofs.Common.{sym, ap, ◌∙◌, arith, option_copied}
use Rattle.qd_http.proofs.OrderLemmas.{fields_count, order_of}
use Rattle.qd_http.proofs.head.read_order.Goals as goal

pub returns : goal.returns
returns c head parts =
    let request = c.args.request.now in (
      omega (arith, fields_count request c.args.len head parts),
      order_of request c.args.len head c.in_ok-wanted.wanted c.in-Some.body c.unwrap-3.result c.is_last.result c.unwrap.result.now c.unwrap-2.result.now parts
          (ap option_copied c.unwrap.ensures) (ap option_copied c.unwrap-2.ensures) c.unwrap-3.ensures c.in_ok-wanted.ensures (sym c.in-Some.is ∙ c.body_size.ensures) c.is_last.ensures,
    )
