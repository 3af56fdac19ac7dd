-- How the fields of a `Keeper` stand for its node. No public clause cites this module.
use Rattle.std.specs.Prelude.{ℕ, ◌+◌, ◌≡◌, ◌≤◌, List, ◌∷◌, map, option_map}
use Rattle.std.specs.List.{AllByRecursion}
use Rattle.cl_types.specs.declared.call.Kind.{Kind}
use Rattle.cl_types.specs.declared.reply.Reply.{Reply}
use Rattle.cl_types.specs.declared.small_reply.SmallReply.{SmallReply}
use Rattle.cl_types.specs.Requests.{is_changing}
use Rattle.cl_types.specs.SmallReplies.{value_of}
use Rattle.cl_types.specs.Kinds.{kind_number}
use Rattle.frame_model.specs.Frames.{Item, reply_in_body, reply_value, status_in}
use Rattle.node_model.specs.Handling.{Handling, Repeats, RefusesForNow, Executes, Looks, handling, oldest_of}
use Rattle.node_model.specs.Nodes.{Record, name_of as name_in, record_named}
use Rattle.flat_model.specs.State.{FlatState}
use Rattle.translate_cache.specs.Cached.{Cached}
use Rattle.retry_buffer.specs.declared.noted.Noted.{Noted}
use Rattle.retry_buffer.specs.Kept.{Kept, AreNotedBy, IsValid, name_of}
use Rattle.node_core.specs.declared.keeper.Judged.{Judged}
use Rattle.node_core.specs.declared.keeper.Judged.TheVariants as judged
use Rattle.node_core.specs.Keeping.{KeptNode}

-- the body of a kept reply's frame
abbrev pub small_body : SmallReply → List ℕ
small_body small = small.status ∷ value_of small

-- the reply that is kept of a request of this kind
abbrev pub reply_kept : Kind → SmallReply → Reply
reply_kept kind small = reply_in_body (128 + kind_number kind) (small_body small)

-- the record that was noted
abbrev pub record_of : Noted → Record
record_of r = record { moment = r.moment; name = name_of r; reply = reply_kept r.kind r.reply }

-- what contracts see
abbrev pub kept_node : FlatState → Cached → Kept → ℕ → KeptNode
kept_node flat cache kept last = record {
  node = record { flat = flat; records = map record_of kept.records; retry = kept.capacity };
  last = last;
  cache = cache;
}

-- the bytes that are kept are those of the reply that they stand for
abbrev pub IsSpelled : Kind → SmallReply → Type 0
IsSpelled kind small =
    let reply = reply_kept kind small in small_body small ≡ status_in reply ∷ reply_value reply

-- what holds of the records at every moment
pub record IsSound (kept : Kept) (last : ℕ) : Type 0 where
  pub some : 1 ≤ kept.capacity
  pub valid : IsValid kept
  pub noted : AreNotedBy last kept.records
  pub spelled : AllByRecursion (λ r. IsSpelled r.kind r.reply) kept.records

-- how the item is handled at the latest moment
abbrev pub handling_at : KeptNode → Item → Handling
handling_at kept item =
    handling (is_changing item.request) (option_map (λ r. r.reply) (record_named (name_in item) kept.node.records)) kept.last
    (option_map (λ r. r.moment) (oldest_of kept.node.retry kept.node.records))

-- the handling for which a request of this kind was judged
abbrev pub handling_of : Kind → Judged → Handling
handling_of kind (judged.Repeats small) = Repeats (reply_kept kind small)
handling_of kind (judged.IsBusy oldest) = RefusesForNow oldest
handling_of kind judged.Executes = Executes
handling_of kind judged.Looks = Looks

-- a reply that is given again is spelled by what is kept of it
abbrev pub IsSpelledWhereRepeated : Kind → Judged → Type 0
IsSpelledWhereRepeated kind (judged.Repeats small) = IsSpelled kind small
IsSpelledWhereRepeated kind other = Unit {0}
