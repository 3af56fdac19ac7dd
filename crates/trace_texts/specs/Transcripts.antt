-- The text of a transcript.
use Rattle.std.specs.Prelude.{[], ◌∷◌, ◌++◌, length, flat_map, decimal, codes}
use Rattle.cl_types.specs.declared.schedule.Schedule.{Schedule}
use Rattle.texts.specs.Text.{Text, line_of}
use Rattle.trace.specs.Account.{Account, Line}
use Rattle.trace.specs.Events.{account}
use Rattle.texts.specs.Texts.{entry_text, numbered_text}

-- the line of an event: its number, its texts, and the call that ended
abbrev pub line_text : Line → Text
line_text line = numbered_text line.number line.texts line.ended

-- the lines of the events, those of the history, and the last with the number of entries
abbrev pub account_text : Account → Text
account_text a =
    flat_map line_text a.lines ++ flat_map entry_text a.history ++ line_of (codes "end" ∷ decimal (length a.history) ∷ [])

-- the transcript of a schedule
abbrev pub transcript : Schedule → Text
transcript s = s.header ++ account_text (account s.config s.events)
