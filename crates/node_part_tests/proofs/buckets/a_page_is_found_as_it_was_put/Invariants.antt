use Rattle.node_part_tests.proofs.buckets.a_page_is_found_as_it_was_put.Given as goal

-- the counter's name and parts are those of the blank
abbrev pub ghosts-found : goal.ghosts-found
ghosts-found g a = record { name = a.blank.name; parts = a.blank.parts }
