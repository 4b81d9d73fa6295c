use Rattle.qd_http.proofs.SortLemmas.{never_both, request_is_some, request_is_whole}
use Rattle.qd_http.proofs.front.HttpFront.three_ways.Goals as goal

pub returns-clause-unfinished : goal.returns-clause-unfinished
returns-clause-unfinished c = never_both

pub returns-clause-whole : goal.returns-clause-whole
returns-clause-whole c bytes body rest head h = request_is_whole bytes (head, body, rest, h)

pub returns-clause-none : goal.returns-clause-none
returns-clause-none c bytes body rest head h = request_is_some bytes (head, body, rest, h)
