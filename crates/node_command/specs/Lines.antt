-- The lines of the command that serves a node.
use Rattle.std.specs.Prelude.{ℕ, [], ◌∷◌, codes, decimal}
use Rattle.texts.specs.Text.{Text, line_of}
use Rattle.wire_loop.specs.declared.serving.ServeEnd.{ServeEnd}
use Rattle.wire_loop.specs.declared.serving.ServeEnd.TheVariants as serve_end
use Rattle.wire_loop.specs.Wired.{wire_fault_line}

-- the line of the port that was bound
abbrev pub port_line : ℕ → Text
port_line port = line_of (codes "port" ∷ decimal port ∷ [])

-- the line of the end of serving, where as many datagrams were asked for
abbrev pub end_line : (frames : ℕ) → ServeEnd → Text
end_line frames serve_end.Frames = line_of (codes "served" ∷ decimal frames ∷ [])
end_line frames (serve_end.Idles served) = line_of (codes "idle" ∷ decimal served ∷ [])
end_line frames (serve_end.WireFault served) = wire_fault_line
