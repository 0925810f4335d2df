-- What becomes of a call, before and after the making.
use Rattle.std.specs.Prelude.{Ok, Err, Result, Some, None, Option}
use Rattle.calls.specs.declared.answer.Answer.{Answer}
use Rattle.calls.specs.declared.answer.Answer.TheVariants.{Done}
use Rattle.calls.specs.declared.call.Call.{Call}
use Rattle.calls.specs.declared.reason.Reason.{Reason}
use Rattle.calls.specs.declared.reason.Reason.TheVariants.{Making}
use Rattle.calls.specs.Calls.{place_of, by_making}
use Rattle.calls.specs.Refusals.{refusal}
use Rattle.store.specs.declared.denial.Denial.{Denial}
use Rattle.store.specs.declared.denial.Denial.TheVariants.{Refused, NotBuilt}
use Rattle.store.specs.declared.session.Session.{Session}
use Rattle.store.specs.declared.sizes.Sizes.{Sizes}
use Rattle.store.specs.Sizes.{made_sizes, out_of_range}

abbrev pub denied : Reason → Call → Result Answer Denial
denied reason c = Err (Refused (refusal reason (place_of c)))

-- a call that makes a store is granted
abbrev pub making_outcome : Option Sizes → Call → Result Answer Denial
making_outcome None c = denied Making c
making_outcome (Some z) c = Ok Done

-- a call that is in its ranges needs a layer that is not built yet
abbrev pub ranged : Option Reason → Call → Result Answer Denial
ranged None c = Err NotBuilt
ranged (Some reason) c = denied reason c

-- the sizes of the store that a call makes
abbrev pub made_by : Call → Option Sizes
made_by c = by_making made_sizes None c

-- the outcome of a call before a making was granted, and in a store of sizes z
abbrev pub outcome_in : Option Sizes → Call → Result Answer Denial
outcome_in None c = making_outcome (made_by c) c
outcome_in (Some z) c = by_making (λ n b k bad. denied Making c) (ranged (out_of_range z c) c) c

-- the sizes after a call: those of the first making that is granted
abbrev pub made_after : Option Sizes → Call → Option Sizes
made_after None c = made_by c
made_after (Some z) c = Some z

-- a session before any call
abbrev pub fresh : Session
fresh = record { made = None }

abbrev pub outcome : Session → Call → Result Answer Denial
outcome s c = outcome_in s.made c

abbrev pub after : Session → Call → Session
after s c = record { made = made_after s.made c }
