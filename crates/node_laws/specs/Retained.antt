-- The law of the records: how many replies a node keeps, by how many requests it executed.
use Rattle.std.specs.Prelude.{◌≡◌, List, length, min}
use Rattle.cl_types.specs.declared.config.NodeConfig.{NodeConfig}
use Rattle.node_model.specs.Handling.{latest}
use Rattle.node_model.specs.Nodes.{opening_node}
use Rattle.lemmas.specs.Machines.{after_all}
use Rattle.node_laws.specs.Span.{Given, node_machine, executed_over}

-- whatever a node was given since its opening, it keeps a reply of each request that it executed, or as many as it may
abbrev pub LawOfRetained : Type 0
LawOfRetained =
    (c : NodeConfig) (given : List Given)
    → length (after_all (node_machine latest) (opening_node c) given).records
    ≡ min c.retry (length (executed_over latest (opening_node c) given))
