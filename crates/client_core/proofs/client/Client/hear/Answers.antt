use Rattle.std.proofs.Common.{◌∙◌, ap, false, true, sym, subst}
use Rattle.std.specs.Prelude.{is_some}
use Rattle.std.specs.Result.{result_err}
use Rattle.cl_types.specs.Requests.{request_of, reply_of}
use Rattle.client_model.specs.Client.{ClientState}
use Rattle.client_core.specs.declared.answers.Heard.TheVariants as heard
use Rattle.client_core.proofs.Hearings.{IsHeard, awaited_under, fit_request, is_bad, is_late, is_other, is_taken, is_under, is_unfit, heard_by, other_no, takes_for, taken_step}
use Rattle.client_core.proofs.Sounds.{going}
use Rattle.client_core.proofs.client.Client.hear.Goals as goal
use Rattle.std.proofs.lemmas.Bool.{eq-eqb as same_no}

pub returns-in-Err : goal.returns-in-Err
returns-in-Err c =
    let bad = is_bad c.args.self.now c.args.frame.now c.in-Err.fault (sym c.read_reply.ensures.fault ∙ ap result_err c.in-Err.is) in
    record { answer = bad.answer_is; state = bad.state_is; valid = rw (← c.self.view_is) c.self.invariant.valid }

pub returns-then-not-ours : goal.returns-then-not-ours
returns-then-not-ours c =
    let other = subst (λ (s : ClientState). IsHeard s s c.args.frame.now (heard.Other c.in-Ok.view.head.client)) c.self.view_is
    (is_other _ c.args.frame.now c.in-Ok.view.head c.in-Ok.view.kind (reply_of c.in-Ok.view.body) c.in-Ok.ensures.read (other_no c.in-Ok.view.head.client.0 c.self.inside.no.0 c.if-not-ours.true)) in
    record { answer = other.answer_is; state = other.state_is; valid = rw (← c.self.view_is) c.self.invariant.valid }

pub returns-in_default : goal.returns-in_default
returns-in_default c =
    let late = subst (λ (s : ClientState). IsHeard s s c.args.frame.now (heard.Late c.in-Ok.view.head.orig)) c.self.view_is
    (is_late c.self.inside.no c.self.inside.pid c.self.inside.issued c.self.inside.sendings c.self.inside.calls c.self.inside.flight c.self.inside.last c.self.invariant
    c.args.frame.now c.in-Ok.view.head c.in-Ok.view.kind (reply_of c.in-Ok.view.body) c.in-Ok.ensures.read (same_no c.in-Ok.view.head.client.0 c.self.inside.no.0 c.if-not-ours.false)
    (sym c.in_default.is ∙ c.part_of.ensures)) in
    record { answer = late.answer_is; state = late.state_is; valid = rw (← c.self.view_is) c.self.invariant.valid }

pub request-asked-requires : goal.request-asked-requires
request-asked-requires c =
    let u = is_under c.self.inside.no c.self.inside.pid c.self.inside.issued c.self.inside.sendings c.self.inside.calls c.self.inside.flight c.self.inside.last c.self.invariant
    c.args.frame.now c.in-Ok.view.head c.in-Ok.view.kind (reply_of c.in-Ok.view.body) c.in-Ok.ensures.read (same_no c.in-Ok.view.head.client.0 c.self.inside.no.0 c.if-not-ours.false)
    c.in-Some.part (sym c.in-Some.is ∙ c.part_of.ensures) in
    ap is_some u.request

pub returns-then-not-fits : goal.returns-then-not-fits
returns-then-not-fits c =
    let u = is_under c.self.inside.no c.self.inside.pid c.self.inside.issued c.self.inside.sendings c.self.inside.calls c.self.inside.flight c.self.inside.last c.self.invariant
    c.args.frame.now c.in-Ok.view.head c.in-Ok.view.kind (reply_of c.in-Ok.view.body) c.in-Ok.ensures.read (same_no c.in-Ok.view.head.client.0 c.self.inside.no.0 c.if-not-ours.false)
    c.in-Some.part (sym c.in-Some.is ∙ c.part_of.ensures) in
    let unfit = subst (λ (s : ClientState). IsHeard s s c.args.frame.now (heard.Unfit c.in-Ok.view.head.orig)) c.self.view_is
    (is_unfit c.self.inside.no c.self.inside.pid c.self.inside.issued c.self.inside.sendings c.self.inside.calls c.self.inside.flight c.self.inside.last c.self.invariant
    c.args.frame.now c.in-Ok.view.head c.in-Ok.view.kind (reply_of c.in-Ok.view.body) c.in-Ok.ensures.read (same_no c.in-Ok.view.head.client.0 c.self.inside.no.0 c.if-not-ours.false)
    c.in-Some.part u (request_of c.request-asked.result) c.request-asked.ensures (sym c.is_fit-fits.ensures ∙ c.if-not-fits.true)) in
    record { answer = unfit.answer_is; state = unfit.state_is; valid = rw (← c.self.view_is) c.self.invariant.valid }

pub take-ended-requires-clause-going : goal.take-ended-requires-clause-going
take-ended-requires-clause-going c = going _ _ _ _ _ _ _ c.self.invariant

pub take-ended-requires-clause-awaited : goal.take-ended-requires-clause-awaited
take-ended-requires-clause-awaited c =
    let u = is_under c.self.inside.no c.self.inside.pid c.self.inside.issued c.self.inside.sendings c.self.inside.calls c.self.inside.flight c.self.inside.last c.self.invariant
    c.args.frame.now c.in-Ok.view.head c.in-Ok.view.kind (reply_of c.in-Ok.view.body) c.in-Ok.ensures.read (same_no c.in-Ok.view.head.client.0 c.self.inside.no.0 c.if-not-ours.false)
    c.in-Some.part (sym c.in-Some.is ∙ c.part_of.ensures) in
    awaited_under c.self.inside.no c.self.inside.pid c.self.inside.issued c.self.inside.sendings c.self.inside.calls c.self.inside.flight c.self.inside.last c.self.invariant
    c.args.frame.now c.in-Ok.view.head c.in-Ok.view.kind (reply_of c.in-Ok.view.body) c.in-Ok.ensures.read (same_no c.in-Ok.view.head.client.0 c.self.inside.no.0 c.if-not-ours.false) c.in-Some.part u

pub take-ended-requires-clause-fits : goal.take-ended-requires-clause-fits
take-ended-requires-clause-fits c =
    let u = is_under c.self.inside.no c.self.inside.pid c.self.inside.issued c.self.inside.sendings c.self.inside.calls c.self.inside.flight c.self.inside.last c.self.invariant
    c.args.frame.now c.in-Ok.view.head c.in-Ok.view.kind (reply_of c.in-Ok.view.body) c.in-Ok.ensures.read (same_no c.in-Ok.view.head.client.0 c.self.inside.no.0 c.if-not-ours.false)
    c.in-Some.part (sym c.in-Some.is ∙ c.part_of.ensures) in
    takes_for c.self.inside.no c.self.inside.pid c.self.inside.issued c.self.inside.sendings c.self.inside.calls c.self.inside.flight c.self.inside.last c.self.invariant
    c.args.frame.now c.in-Ok.view.head c.in-Ok.view.kind (reply_of c.in-Ok.view.body) c.in-Ok.ensures.read (same_no c.in-Ok.view.head.client.0 c.self.inside.no.0 c.if-not-ours.false) c.in-Some.part u
    c.in-Ok.ensures.spelled.good_body
    (fit_request c.self.inside.no c.self.inside.pid c.self.inside.issued c.self.inside.sendings c.self.inside.calls c.self.inside.flight c.self.inside.last c.self.invariant
    c.args.frame.now c.in-Ok.view.head c.in-Ok.view.kind (reply_of c.in-Ok.view.body) c.in-Ok.ensures.read (same_no c.in-Ok.view.head.client.0 c.self.inside.no.0 c.if-not-ours.false) c.in-Some.part u
    (request_of c.request-asked.result) c.request-asked.ensures (sym c.is_fit-fits.ensures ∙ c.if-not-fits.false))

pub invariant_of-self : goal.invariant_of-self
invariant_of-self c =
    let u = is_under c.self.inside.no c.self.inside.pid c.self.inside.issued c.self.inside.sendings c.self.inside.calls c.self.inside.flight c.self.inside.last c.self.invariant
    c.args.frame.now c.in-Ok.view.head c.in-Ok.view.kind (reply_of c.in-Ok.view.body) c.in-Ok.ensures.read (same_no c.in-Ok.view.head.client.0 c.self.inside.no.0 c.if-not-ours.false)
    c.in-Some.part (sym c.in-Some.is ∙ c.part_of.ensures) in
    (taken_step c.self.inside.no c.self.inside.pid c.self.inside.issued c.self.inside.sendings c.self.inside.calls c.self.inside.flight c.self.inside.last c.self.invariant
    c.args.frame.now c.in-Ok.view.head c.in-Ok.view.kind (reply_of c.in-Ok.view.body) c.in-Ok.ensures.read (same_no c.in-Ok.view.head.client.0 c.self.inside.no.0 c.if-not-ours.false) c.in-Some.part u c.take-ended.new.self c.hear.new.self c.take-ended.ensures.calls c.hear.ensures.flown c.hear.ensures.last).sound'

pub invariant_of-self-2 : goal.invariant_of-self-2
invariant_of-self-2 c =
    let u = is_under c.self.inside.no c.self.inside.pid c.self.inside.issued c.self.inside.sendings c.self.inside.calls c.self.inside.flight c.self.inside.last c.self.invariant
    c.args.frame.now c.in-Ok.view.head c.in-Ok.view.kind (reply_of c.in-Ok.view.body) c.in-Ok.ensures.read (same_no c.in-Ok.view.head.client.0 c.self.inside.no.0 c.if-not-ours.false)
    c.in-Some.part (sym c.in-Some.is ∙ c.part_of.ensures) in
    (taken_step c.self.inside.no c.self.inside.pid c.self.inside.issued c.self.inside.sendings c.self.inside.calls c.self.inside.flight c.self.inside.last c.self.invariant
    c.args.frame.now c.in-Ok.view.head c.in-Ok.view.kind (reply_of c.in-Ok.view.body) c.in-Ok.ensures.read (same_no c.in-Ok.view.head.client.0 c.self.inside.no.0 c.if-not-ours.false) c.in-Some.part u c.take-ended.new.self c.hear.new.self c.take-ended.ensures.calls c.hear.ensures.flown c.hear.ensures.last).sound'

pub returns-then-ended : goal.returns-then-ended
returns-then-ended c =
    let u = is_under c.self.inside.no c.self.inside.pid c.self.inside.issued c.self.inside.sendings c.self.inside.calls c.self.inside.flight c.self.inside.last c.self.invariant
    c.args.frame.now c.in-Ok.view.head c.in-Ok.view.kind (reply_of c.in-Ok.view.body) c.in-Ok.ensures.read (same_no c.in-Ok.view.head.client.0 c.self.inside.no.0 c.if-not-ours.false)
    c.in-Some.part (sym c.in-Some.is ∙ c.part_of.ensures) in
    let taken = heard_by c.args.self.now _ _ c.args.frame.now (heard.Ended c.in-Some.part) (heard.Took c.in-Some.part) c.take-ended.result true c.self.view_is c.if-ended.true
    (is_taken c.self.inside.no c.self.inside.pid c.self.inside.issued c.self.inside.sendings c.self.inside.calls c.self.inside.flight c.self.inside.last c.self.invariant
    c.args.frame.now c.in-Ok.view.head c.in-Ok.view.kind (reply_of c.in-Ok.view.body) c.in-Ok.ensures.read (same_no c.in-Ok.view.head.client.0 c.self.inside.no.0 c.if-not-ours.false) c.in-Some.part u c.take-ended.new.self c.hear.new.self c.take-ended.ensures.calls c.hear.ensures.flown c.hear.ensures.last
    (fit_request c.self.inside.no c.self.inside.pid c.self.inside.issued c.self.inside.sendings c.self.inside.calls c.self.inside.flight c.self.inside.last c.self.invariant
    c.args.frame.now c.in-Ok.view.head c.in-Ok.view.kind (reply_of c.in-Ok.view.body) c.in-Ok.ensures.read (same_no c.in-Ok.view.head.client.0 c.self.inside.no.0 c.if-not-ours.false) c.in-Some.part u (request_of c.request-asked.result) c.request-asked.ensures (sym c.is_fit-fits.ensures ∙ c.if-not-fits.false)) c.take-ended.result c.take-ended.ensures.ends) in
    let step = taken_step c.self.inside.no c.self.inside.pid c.self.inside.issued c.self.inside.sendings c.self.inside.calls c.self.inside.flight c.self.inside.last c.self.invariant
    c.args.frame.now c.in-Ok.view.head c.in-Ok.view.kind (reply_of c.in-Ok.view.body) c.in-Ok.ensures.read (same_no c.in-Ok.view.head.client.0 c.self.inside.no.0 c.if-not-ours.false) c.in-Some.part u c.take-ended.new.self c.hear.new.self c.take-ended.ensures.calls c.hear.ensures.flown c.hear.ensures.last in
    record { answer = taken.answer_is; state = taken.state_is; valid = step.sound'.valid }

pub returns : goal.returns
returns c =
    let u = is_under c.self.inside.no c.self.inside.pid c.self.inside.issued c.self.inside.sendings c.self.inside.calls c.self.inside.flight c.self.inside.last c.self.invariant
    c.args.frame.now c.in-Ok.view.head c.in-Ok.view.kind (reply_of c.in-Ok.view.body) c.in-Ok.ensures.read (same_no c.in-Ok.view.head.client.0 c.self.inside.no.0 c.if-not-ours.false)
    c.in-Some.part (sym c.in-Some.is ∙ c.part_of.ensures) in
    let taken = heard_by c.args.self.now _ _ c.args.frame.now (heard.Ended c.in-Some.part) (heard.Took c.in-Some.part) c.take-ended.result false c.self.view_is c.if-ended.false
    (is_taken c.self.inside.no c.self.inside.pid c.self.inside.issued c.self.inside.sendings c.self.inside.calls c.self.inside.flight c.self.inside.last c.self.invariant
    c.args.frame.now c.in-Ok.view.head c.in-Ok.view.kind (reply_of c.in-Ok.view.body) c.in-Ok.ensures.read (same_no c.in-Ok.view.head.client.0 c.self.inside.no.0 c.if-not-ours.false) c.in-Some.part u c.take-ended.new.self c.hear.new.self c.take-ended.ensures.calls c.hear.ensures.flown c.hear.ensures.last
    (fit_request c.self.inside.no c.self.inside.pid c.self.inside.issued c.self.inside.sendings c.self.inside.calls c.self.inside.flight c.self.inside.last c.self.invariant
    c.args.frame.now c.in-Ok.view.head c.in-Ok.view.kind (reply_of c.in-Ok.view.body) c.in-Ok.ensures.read (same_no c.in-Ok.view.head.client.0 c.self.inside.no.0 c.if-not-ours.false) c.in-Some.part u (request_of c.request-asked.result) c.request-asked.ensures (sym c.is_fit-fits.ensures ∙ c.if-not-fits.false)) c.take-ended.result c.take-ended.ensures.ends) in
    let step = taken_step c.self.inside.no c.self.inside.pid c.self.inside.issued c.self.inside.sendings c.self.inside.calls c.self.inside.flight c.self.inside.last c.self.invariant
    c.args.frame.now c.in-Ok.view.head c.in-Ok.view.kind (reply_of c.in-Ok.view.body) c.in-Ok.ensures.read (same_no c.in-Ok.view.head.client.0 c.self.inside.no.0 c.if-not-ours.false) c.in-Some.part u c.take-ended.new.self c.hear.new.self c.take-ended.ensures.calls c.hear.ensures.flown c.hear.ensures.last in
    record { answer = taken.answer_is; state = taken.state_is; valid = step.sound'.valid }
