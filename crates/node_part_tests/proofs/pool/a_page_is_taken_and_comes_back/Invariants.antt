use Rattle.node_part_tests.proofs.pool.a_page_is_taken_and_comes_back.Given as goal

-- the counter's name and parts are those of the blank
abbrev pub ghosts-taken : goal.ghosts-taken
ghosts-taken g a = record { name = a.blank.name; parts = a.blank.parts }
