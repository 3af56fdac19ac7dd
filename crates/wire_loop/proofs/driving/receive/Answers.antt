use Rattle.std.proofs.Common.{rules, ◌≡◌, false, length, take, refl, sym, ap, ◌∙◌, Bool}
use Rattle.std.specs.Prelude.{◌||◌}
use Rattle.cl_types.specs.declared.limits.TheConstants.{FRAME_ROOM}
use Rattle.client_core.specs.Answers.{heard_as}
use Rattle.client_model.specs.Hearing.{Hearing, after_hearing, is_reply}
use Rattle.wire_loop.specs.Outside.{Datagram, NothingCame, ReceivingFailed}
use Rattle.wire_loop.specs.Driven.{driving}
use Rattle.wire_loop.proofs.PollLemmas.{as_heard, failed_steps, heard_issued, heard_steps, same_steps}
use Rattle.wire_loop.specs.Steps.{steps_left}
use Rattle.wire_loop.proofs.RanLemmas.{incoming_same}
use Rattle.wire_loop.proofs.driving.receive.Goals as goal

pub returns-in-Got-clause-receives : goal.returns-in-Got-clause-receives
returns-in-Got-clause-receives g c =
    let got = c.in-Got.ensures.coming in
    let room : length c.recv.new.buf ≡ FRAME_ROOM = search rules in
    let bytes = take c.in-Got.len c.recv.new.buf in
    let same = as_heard c.args.client.now bytes in record {
      receive = Datagram bytes c.in-Got.from;
      is_fruit = c.args.grew || c.hears_reply-taken.result;
      gave = (got.0, got.1, got.2.bytes ∙ ap (λ n. take n got.0.bytes) room, got.2.from_peer, c.in-Got.ensures.idles);
      fruit = c.fruit_of.ensures.fruit;
      holds = λ script lines clock rest sendings sent printed fruitless j.
          driving ((ap (λ (h : Hearing). after_hearing h c.args.client.now) (sym same) ∙ sym c.hears_reply-taken.ensures.state) j) script lines clock rest sendings sent printed fruitless (sym c.fruit_of.ensures.went j);
      fruitful = λ rest. ap (λ (b : Bool). c.args.grew || b) (ap is_reply (sym same) ∙ sym c.hears_reply-taken.ensures.taken);
    }

pub returns-in-Idle-clause-receives : goal.returns-in-Idle-clause-receives
returns-in-Idle-clause-receives g c = record {
  receive = NothingCame;
  is_fruit = c.args.grew || false;
  gave = (c.in-Idle.ensures.coming.0, c.in-Idle.ensures.coming.1, c.in-Idle.ensures.idles);
  fruit = c.fruit_of-in-Idle.ensures.fruit;
  holds = λ script lines clock rest sendings sent printed fruitless j.
      driving c.args.client.now script lines clock rest sendings sent printed fruitless (sym c.fruit_of-in-Idle.ensures.went j);
  fruitful = λ rest. refl;
}

pub returns-in-Failed-clause-receives : goal.returns-in-Failed-clause-receives
returns-in-Failed-clause-receives g c = record {
  receive = ReceivingFailed;
  is_fruit = c.args.grew || false;
  gave = incoming_same c.in-Failed.ensures.coming c.in-Failed.ensures.idles;
  fruit = tt;
  holds = λ script lines clock rest sendings sent printed fruitless. refl;
  fruitful = λ rest. refl;
}

pub returns-in-Got-clause-issued : goal.returns-in-Got-clause-issued
returns-in-Got-clause-issued g c = heard_issued (heard_as c.args.client.now (take c.in-Got.len c.recv.new.buf)) c.args.client.now c.hears_reply-taken.new.client c.hears_reply-taken.ensures.state

pub returns-in-Got-clause-steps : goal.returns-in-Got-clause-steps
returns-in-Got-clause-steps g c calls =
    heard_steps c.args.client.now c.hears_reply-taken.new.client calls c.args.grew c.hears_reply-taken.result c.fruit_of.result (take c.in-Got.len c.recv.new.buf)
    c.hears_reply-taken.ensures.state c.hears_reply-taken.ensures.taken c.fruit_of.ensures.fruit

pub returns-in-Idle-clause-steps : goal.returns-in-Idle-clause-steps
returns-in-Idle-clause-steps g c calls = same_steps c.args.grew c.fruit_of-in-Idle.result (steps_left c.args.client.now calls) c.fruit_of-in-Idle.ensures.fruit

pub returns-in-Failed-clause-steps : goal.returns-in-Failed-clause-steps
returns-in-Failed-clause-steps g c calls = failed_steps c.args.grew (steps_left c.args.client.now calls)
