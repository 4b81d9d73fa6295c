use Rattle.std.proofs.Common.{◌++◌}
use Rattle.qd_http.proofs.SortLemmas.{none_more, request_is_some}
use Rattle.qd_http.proofs.front.HttpFront.refusal_is_final.Goals as goal

pub returns : goal.returns
returns c bytes more body rest head none h = request_is_some (bytes ++ more) (head, body, rest, h) (none_more bytes more none)
