-- Command lines and the commands that they are: each number at the ends of its range, and one past them.
use Rattle.std.proofs.Common.{◌≡◌, [], ◌∷◌, refl}
use Rattle.std.specs.Prelude.{ℕ, Bool, true, List, map, Option, Some, None, is_none, codes}
use Rattle.std.specs.List.{list_all}
use Rattle.cl_types.specs.declared.config.NodeConfig.{NodeConfig}
use Rattle.texts.specs.Text.{Text, words_in}
use Rattle.texts.specs.Commands.{Command, Replay, Check, Storm, Serve, Drive, command_in}

-- the command of these words, one space between each two
abbrev command : Text → Option Command
command line = command_in (words_in line)

-- none of these lines is a command
abbrev are_none : List Text → Bool
are_none lines = list_all (λ line. is_none (command line)) lines

abbrev node : (pages buckets ring retry : ℕ) → NodeConfig
node pages buckets ring retry = record { pages = pages; buckets = buckets; ring = ring; retry = retry; offloads = [] }

no_words : command_in [] ≡ None
no_words = refl

words_alone : map command (codes "replay" ∷ codes "check" ∷ []) ≡ Some Replay ∷ Some Check ∷ []
words_alone = refl

-- a command is its exact words, no more and no fewer
other_words : are_none (
    []
    ∷ codes "Replay"
    ∷ codes "repla"
    ∷ codes "replays"
    ∷ codes "replay "
    ∷ codes " replay"
    ∷ codes "replay x"
    ∷ codes "check check"
    ∷ codes "check 1"
    ∷ codes "help"
    ∷ codes "--help"
    ∷ codes "serve 0 16 8 4 4 3 1000"
    ∷ codes "drive 1 1 1"
    ∷ []
    ) ≡ true
other_words = refl

-- ---- storm SEED CALLS
storms : map command (
    codes "storm 0 0"
    ∷ codes "storm 1 100000"
    ∷ codes "storm 18446744073709551615 99999"
    ∷ []
    ) ≡ Some (Storm 0 0) ∷ Some (Storm 1 100000) ∷ Some (Storm 18446744073709551615 99999) ∷ []
storms = refl

no_storms : are_none (
    codes "storm"
    ∷ codes "storm 1"
    ∷ codes "storm 1 "
    ∷ codes "storm  1"
    ∷ codes "storm 1 1 1"
    ∷ codes "storm 1 100001"
    ∷ codes "storm 18446744073709551616 1"
    ∷ codes "storm 01 1"
    ∷ codes "storm 1 00"
    ∷ codes "storm -1 1"
    ∷ codes "storm +1 1"
    ∷ codes "storm 0x1 1"
    ∷ codes "storm 1 1."
    ∷ []
    ) ≡ true
no_storms = refl

-- ---- node PORT PAGES BUCKETS RING RETRY FRAMES IDLES
-- the node's own numbers are judged where it opens, and not here
nodes : map command (
    codes "node 0 16 8 4 4 3 1000"
    ∷ codes "node 65535 0 7 0 0 1 1"
    ∷ codes "node 7000 18446744073709551615 18446744073709551615 18446744073709551615 18446744073709551615 4294967295 4294967295"
    ∷ []
    ) ≡ Some (Serve 0 (node 16 8 4 4) 3 1000)
    ∷ Some (Serve 65535 (node 0 7 0 0) 1 1)
    ∷ Some (Serve 7000 (node 18446744073709551615 18446744073709551615 18446744073709551615 18446744073709551615) 4294967295 4294967295)
    ∷ []
nodes = refl

no_nodes : are_none (
    codes "node"
    ∷ codes "node 0 16 8 4 4 3"
    ∷ codes "node 0 16 8 4 4 3 1000 1"
    ∷ codes "node 65536 16 8 4 4 3 1000"
    ∷ codes "node 0 18446744073709551616 8 4 4 3 1000"
    ∷ codes "node 0 16 18446744073709551616 4 4 3 1000"
    ∷ codes "node 0 16 8 18446744073709551616 4 3 1000"
    ∷ codes "node 0 16 8 4 18446744073709551616 3 1000"
    ∷ codes "node 0 16 8 4 4 0 1000"
    ∷ codes "node 0 16 8 4 4 4294967296 1000"
    ∷ codes "node 0 16 8 4 4 3 0"
    ∷ codes "node 0 16 8 4 4 3 4294967296"
    ∷ codes "node 00 16 8 4 4 3 1000"
    ∷ codes "node 0 016 8 4 4 3 1000"
    ∷ codes "node 0 16 8 4 4 x 1000"
    ∷ []
    ) ≡ true
no_nodes = refl

-- ---- client NODEPORT CLIENT PID
clients : map command (codes "client 1 0 1" ∷ codes "client 65535 65535 65279" ∷ []) ≡
    Some (Drive 1 (record { 0 = 0 }) 1) ∷ Some (Drive 65535 (record { 0 = 65535 }) 65279) ∷ []
clients = refl

no_clients : are_none (
    codes "client"
    ∷ codes "client 1 1"
    ∷ codes "client 1 1 1 1"
    ∷ codes "client 0 1 1"
    ∷ codes "client 65536 1 1"
    ∷ codes "client 1 65536 1"
    ∷ codes "client 1 1 0"
    ∷ codes "client 1 1 65280"
    ∷ codes "client 1 01 1"
    ∷ codes "client 1 1 x"
    ∷ []
    ) ≡ true
no_clients = refl
