use Rattle.storm_command.proofs.command.happen.Goals as goal

pub returns-clause-line : goal.returns-clause-line
returns-clause-line c = c.in_ok-event.ensures.line

pub returns-clause-stands : goal.returns-clause-stands
returns-clause-stands c config events good stands = (c.in_ok-event.ensures.stands config events good stands).1
