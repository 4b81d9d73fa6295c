-- The responses (RFC 9112, section 4): a status line, fields and, where there is one, a body of JSON.
use Rattle.std.specs.Prelude.{ℕ, Bool, ◌||◌, ◌&&◌, ◌==◌, nat_le, List, [], ◌∷◌, ◌++◌, codes, length, if◌then◌else◌}
use Rattle.std.specs.Fmt.{decimal}
use Rattle.qd_base.specs.declared.request.Request.{Request}
use Rattle.qd_base.specs.declared.request.Request.TheVariants as request
use Rattle.qd_base.specs.declared.request.Reply.{Reply}
use Rattle.qd_base.specs.declared.request.Reply.TheVariants as reply
use Rattle.qd_http.specs.declared.wanted.Refusal.{Refusal}
use Rattle.qd_http.specs.declared.wanted.Refusal.TheVariants as refusal
use Rattle.qd_http.specs.declared.reply.Asked.{Asked}
use Rattle.qd_http.specs.declared.reply.Asked.TheVariants as asked
use Rattle.qd_http.specs.declared.reply.Status.{Status}
use Rattle.qd_http.specs.declared.reply.Status.TheVariants as status
use Rattle.qd_http.specs.Json.{json_rows, json_txn, json_refusal, json_query_refusal, json_damage}

-- a line and its end
abbrev pub line : List ℕ → List ℕ
line text = text ++ 13 ∷ 10 ∷ []

abbrev pub status_text : Status → List ℕ
status_text status.Done = codes "200 OK"
status_text status.BadRequest = codes "400 Bad Request"
status_text status.NotFound = codes "404 Not Found"
status_text status.MethodNotAllowed = codes "405 Method Not Allowed"
status_text status.Failed = codes "500 Internal Server Error"

-- what stands before a body of n bytes
abbrev pub head_text : Status → ℕ → List ℕ
head_text s n =
    line (codes "HTTP/1.1 " ++ status_text s) ++ line (codes "Content-Type: application/json; charset=utf-8")
    ++ line (codes "Content-Length: " ++ decimal n) ++ line []

-- a response with a body
abbrev pub response : Status → List ℕ → List ℕ
response s body = head_text s (length body) ++ body

-- the response to a batch that is transaction n
abbrev pub written : ℕ → List ℕ
written n = line (codes "HTTP/1.1 204 No Content") ++ line (codes "X-Txn: " ++ decimal n) ++ line []

-- the clock, a worker, the store's room, the volume, a row or memory was wanting
abbrev pub is_failure : ℕ → Bool
is_failure code = code == 42 || (nat_le 50 code && nat_le code 53) || code == 61

abbrev pub status_of_code : ℕ → Status
status_of_code code = if is_failure code then status.Failed else status.BadRequest

-- the status of a reply, and its body, where a statement was asked or none
abbrev pub status_of : Reply → Status
status_of (reply.Done n) = status.Done
status_of (reply.Applied n) = status.Done
status_of (reply.Rows n table) = status.Done
status_of (reply.Refused code place) = status_of_code code
status_of (reply.QueryRefused n code place) = status.BadRequest
status_of (reply.Damaged file at) = status.Failed
status_of reply.Bye = status.Done

abbrev pub body_of : (statement : List ℕ) → Reply → List ℕ
body_of statement (reply.Done n) = json_txn n
body_of statement (reply.Applied n) = json_txn n
body_of statement (reply.Rows n table) = json_rows statement n table
body_of statement (reply.Refused code place) = json_refusal code place
body_of statement (reply.QueryRefused n code place) = json_query_refusal n code place
body_of statement (reply.Damaged file at) = json_damage file at
body_of statement reply.Bye = []

-- the response to a reply; the end is answered by nothing
abbrev pub answered : (statement : List ℕ) → Reply → List ℕ
answered statement reply.Bye = []
answered statement given = response (status_of given) (body_of statement given)

-- the response to a reply, where a batch was asked
abbrev pub answered_write : Reply → List ℕ
answered_write (reply.Done n) = written n
answered_write given = answered [] given

-- the response to a reply, by what was asked
abbrev pub printed : Asked → Reply → List ℕ
printed asked.Nothing = answered []
printed asked.Write = answered_write
printed (asked.Statement text) = answered text
printed asked.Apply = answered []
printed asked.End = λ given. []

-- what a request asks
abbrev pub asked_by : Request → Asked
asked_by (request.Write text) = asked.Write
asked_by (request.Sql text) = asked.Statement text
asked_by request.Apply = asked.Apply
asked_by request.End = asked.End

-- The response to a reply to a request.
abbrev pub http_reply : Request → Reply → List ℕ
http_reply asked = printed (asked_by asked)

-- the response to a reply to bytes that are no request
abbrev pub bare_reply : Reply → List ℕ
bare_reply = printed asked.Nothing

-- the code and the status of a request that is not served
abbrev pub code_of : Refusal → ℕ
code_of refusal.Path = 70
code_of refusal.Method = 71
code_of refusal.Query = 72

abbrev pub status_of_refusal : Refusal → Status
status_of_refusal refusal.Path = status.NotFound
status_of_refusal refusal.Method = status.MethodNotAllowed
status_of_refusal refusal.Query = status.BadRequest

-- and the response to it
abbrev pub said : Refusal → List ℕ
said why = response (status_of_refusal why) (json_refusal (code_of why) 0)
