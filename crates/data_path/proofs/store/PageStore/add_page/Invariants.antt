use Rattle.data_path.proofs.store.PageStore.add_page.Given as goal

-- the counter's name and parts are those of the blank
abbrev pub ghosts-take_frame : goal.ghosts-take_frame
ghosts-take_frame a = record { name = a.blank.name; parts = a.blank.parts }
