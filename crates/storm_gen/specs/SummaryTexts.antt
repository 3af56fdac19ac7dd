-- The text of what a replay counts.
use Rattle.std.specs.Prelude.{ℕ, [], ◌∷◌, ◌++◌, decimal, codes}
use Rattle.cl_types.specs.declared.line.Summary.{Summary}
use Rattle.texts.specs.Text.{Text, line_of, line_end}

-- the line of a name and a number
abbrev pub count_line : Text → ℕ → Text
count_line name n = line_of (name ∷ decimal n ∷ [])

-- the summary of a generated schedule, whose history is always a run
abbrev pub summary_text : Summary → Text
summary_text s =
    count_line (codes "issued") s.issued ++ count_line (codes "done") s.done ++ count_line (codes "refused") s.refused
    ++ count_line (codes "timed out") s.timed_out ++ count_line (codes "unended") s.unended ++ count_line (codes "entries") s.entries
    ++ codes "verdict run" ++ line_end
