-- What requests and answers say, in the words of an endpoint's calls.
use Rattle.std.specs.Prelude.{ℕ, List, [], ◌∷◌, ◌++◌, map, Some, None, vec_items, Option, Result}
use Rattle.link.specs.Calls as calls
pub use Rattle.link.specs.Calls.{answer_of}
use Rattle.link.specs.Calls.{Call, Reply}
use Rattle.link.specs.declared.call.Answer.{Answer}
use Rattle.link.specs.declared.refusal.Refusal.{Refusal}
use Rattle.link.specs.Steps.{reply}
use Rattle.rehearsal.specs.declared.exchange.Request.{Request}
use Rattle.rehearsal.specs.declared.exchange.Request.TheVariants as request
use Rattle.rehearsal.specs.declared.exchange.Exchange.{Exchange}

-- a request as a call, with the output lent to it
abbrev pub as_call : Request → List ℕ → Call
as_call (request.Start key nonce) out = calls.Start (vec_items key) (vec_items nonce) out
as_call (request.Seal aad message) out = calls.Seal (vec_items aad) (vec_items message) out
as_call (request.Open aad sealed_bytes) out = calls.Open (vec_items aad) (vec_items sealed_bytes) out
as_call request.Left out = calls.Left out
as_call request.Close out = calls.Close out

abbrev pub call_of : Exchange → Call
call_of x = as_call x.request (vec_items x.output)

abbrev pub calls_of : List Exchange → List Call
calls_of xs = map call_of xs

-- the answers given so far, each with its output
abbrev pub told_by : Option (Result Answer Refusal) → List ℕ → List Reply
told_by None out = []
told_by (Some a) out = reply (answer_of a) out ∷ []

unfoldable pub replies_of : List Exchange → List Reply
replies_of [] = []
replies_of (x ∷ xs) = told_by x.answer (vec_items x.output) ++ replies_of xs

abbrev pub request_of : Exchange → Request
request_of x = x.request

abbrev pub requests_of : List Exchange → List Request
requests_of xs = map request_of xs
