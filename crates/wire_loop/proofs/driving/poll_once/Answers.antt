use Rattle.std.proofs.Common.{rules, ◌≡◌, length, refl, sym, ◌∙◌, subst, arith}
use Rattle.client_model.specs.Client.{Idles, poll}
use Rattle.wire_loop.proofs.PollLemmas.{SentSo, busy_takes, ended_is, gave_up_is, idle_is, idle_takes, polled_failed, polled_idle, polled_issued, polled_quiet, polled_sent, quiet_busy, sent_so}
use Rattle.wire_loop.specs.declared.driving.Fruit.TheVariants as fruit
use Rattle.wire_loop.proofs.StepLemmas.{IsBusy, polls_of}
use Rattle.wire_loop.proofs.RanLemmas.{incoming_same}
use Rattle.wire_loop.proofs.driving.poll_once.Goals as goal

pub returns-in-GaveUp-clause-polls : goal.returns-in-GaveUp-clause-polls
returns-in-GaveUp-clause-polls g c =
    let s = c.args.client.now in
    polled_quiet c.args.node s c.poll.new.self c.args.now _ _ _ _ (gave_up_is s (poll s c.args.now) c.in-GaveUp._part c.in-GaveUp.ensures.answer) c.poll.ensures.state refl refl

pub returns-in-Ended-clause-polls : goal.returns-in-Ended-clause-polls
returns-in-Ended-clause-polls g c =
    let s = c.args.client.now in
    polled_quiet c.args.node s c.poll.new.self c.args.now _ _ _ _ (ended_is s (poll s c.args.now) c.in-Ended._no c.in-Ended.ensures.answer) c.poll.ensures.state refl refl

pub returns-in-Idle-clause-polls : goal.returns-in-Idle-clause-polls
returns-in-Idle-clause-polls g c =
    let s = c.args.client.now in
    let is : poll s c.args.now ≡ Idles = idle_is s (poll s c.args.now) (polls_of s c.args.now) c.in-Idle.ensures.answer in
    polled_idle c.args.node s c.receive.new.client c.args.now _ _ _ _ c.poll.new.self _ _ is (search rules) c.poll.ensures.state c.receive.ensures.sent c.receive.ensures.receives

pub returns-in-Sent-send-clause-polls : goal.returns-in-Sent-send-clause-polls
returns-in-Sent-send-clause-polls g c =
    let s = c.args.client.now in
    let size : length c.poll.new.out ≡ 1200 = search rules in
    let so : SentSo s (poll s c.args.now) c.in-Sent.len c.poll.new.out =
    sent_so s (poll s c.args.now) c.in-Sent.len c.in-Sent.part c.in-Sent.id c.in-Sent.orig c.in-Sent.again _ c.poll.new.out c.in-Sent.ensures.answer c.poll.ensures.bytes c.requires.room size in
    polled_sent c.args.node s c.poll.new.self c.args.now _ _ _ _ c.in-Sent.len c.poll.new.out so c.poll.ensures.state (incoming_same c.send.ensures.coming c.send.ensures.idles) c.in-Sent-send.ensures.sent

pub returns-in-Failed-clause-polls : goal.returns-in-Failed-clause-polls
returns-in-Failed-clause-polls g c =
    let s = c.args.client.now in
    let size : length c.poll.new.out ≡ 1200 = search rules in
    let so : SentSo s (poll s c.args.now) c.in-Sent.len c.poll.new.out =
    sent_so s (poll s c.args.now) c.in-Sent.len c.in-Sent.part c.in-Sent.id c.in-Sent.orig c.in-Sent.again _ c.poll.new.out c.in-Sent.ensures.answer c.poll.ensures.bytes c.requires.room size in
    polled_failed c.args.node s c.poll.new.self c.args.now _ _ _ _ c.in-Sent.len c.poll.new.out so c.poll.ensures.state (incoming_same c.send.ensures.coming c.send.ensures.idles) c.in-Failed.ensures.sent

pub returns-in-Sent-send-clause-issued : goal.returns-in-Sent-send-clause-issued
returns-in-Sent-send-clause-issued g c = polled_issued c.args.now (poll c.args.client.now c.args.now) c.args.client.now c.poll.new.self c.poll.ensures.state

pub returns-in-Failed-clause-issued : goal.returns-in-Failed-clause-issued
returns-in-Failed-clause-issued g c = polled_issued c.args.now (poll c.args.client.now c.args.now) c.args.client.now c.poll.new.self c.poll.ensures.state

pub returns-in-GaveUp-clause-issued : goal.returns-in-GaveUp-clause-issued
returns-in-GaveUp-clause-issued g c = polled_issued c.args.now (poll c.args.client.now c.args.now) c.args.client.now c.poll.new.self c.poll.ensures.state

pub returns-in-Ended-clause-issued : goal.returns-in-Ended-clause-issued
returns-in-Ended-clause-issued g c = polled_issued c.args.now (poll c.args.client.now c.args.now) c.args.client.now c.poll.new.self c.poll.ensures.state

pub returns-in-Idle-clause-issued : goal.returns-in-Idle-clause-issued
returns-in-Idle-clause-issued g c = c.receive.ensures.issued ∙ polled_issued c.args.now (poll c.args.client.now c.args.now) c.args.client.now c.poll.new.self c.poll.ensures.state

pub returns-in-GaveUp-clause-steps : goal.returns-in-GaveUp-clause-steps
returns-in-GaveUp-clause-steps g c calls =
    let s = c.args.client.now in
    busy_takes fruit.Fruitful s c.poll.new.self c.args.now calls (quiet_busy (poll s c.args.now) (gave_up_is s (poll s c.args.now) c.in-GaveUp._part c.in-GaveUp.ensures.answer))
    c.poll.ensures.state c.requires.moment c.poll.ensures.valid

pub returns-in-Ended-clause-steps : goal.returns-in-Ended-clause-steps
returns-in-Ended-clause-steps g c calls =
    let s = c.args.client.now in
    busy_takes fruit.Fruitful s c.poll.new.self c.args.now calls (quiet_busy (poll s c.args.now) (ended_is s (poll s c.args.now) c.in-Ended._no c.in-Ended.ensures.answer))
    c.poll.ensures.state c.requires.moment c.poll.ensures.valid

pub returns-in-Idle-clause-steps : goal.returns-in-Idle-clause-steps
returns-in-Idle-clause-steps g c calls =
    let s = c.args.client.now in
    let is : poll s c.args.now ≡ Idles = idle_is s (poll s c.args.now) (polls_of s c.args.now) c.in-Idle.ensures.answer in
    idle_takes c.receive.result s c.poll.new.self c.receive.new.client c.args.now calls _ is c.poll.ensures.state (search rules) c.requires.moment (omega arith)
    (c.receive.ensures.steps calls)

pub returns-in-Sent-send-clause-steps : goal.returns-in-Sent-send-clause-steps
returns-in-Sent-send-clause-steps g c calls =
    let s = c.args.client.now in
    let size : length c.poll.new.out ≡ 1200 = search rules in
    let so : SentSo s (poll s c.args.now) c.in-Sent.len c.poll.new.out =
    sent_so s (poll s c.args.now) c.in-Sent.len c.in-Sent.part c.in-Sent.id c.in-Sent.orig c.in-Sent.again _ c.poll.new.out c.in-Sent.ensures.answer c.poll.ensures.bytes c.requires.room size in
    busy_takes fruit.Fruitful s c.poll.new.self c.args.now calls (subst IsBusy (sym so.is) tt) c.poll.ensures.state c.requires.moment c.poll.ensures.valid

pub returns-in-Failed-clause-steps : goal.returns-in-Failed-clause-steps
returns-in-Failed-clause-steps g c calls =
    let s = c.args.client.now in
    let size : length c.poll.new.out ≡ 1200 = search rules in
    let so : SentSo s (poll s c.args.now) c.in-Sent.len c.poll.new.out =
    sent_so s (poll s c.args.now) c.in-Sent.len c.in-Sent.part c.in-Sent.id c.in-Sent.orig c.in-Sent.again _ c.poll.new.out c.in-Sent.ensures.answer c.poll.ensures.bytes c.requires.room size in
    busy_takes fruit.Failed s c.poll.new.self c.args.now calls (subst IsBusy (sym so.is) tt) c.poll.ensures.state c.requires.moment c.poll.ensures.valid
