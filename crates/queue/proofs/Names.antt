-- The names that several files of these proofs use.
pub use Rattle.marks.specs.Sets.{Differs, IsNextMark, bit_of}
pub use Rattle.model.specs.Broker.{body_bytes, is_ready, ready_bytes}
pub use Rattle.model.specs.Entries.{change_first, freed, freed_now, held_as, is_held_as, is_held_by, is_under, number_of, without_first}
pub use Rattle.model.specs.Message.{Message}
pub use Rattle.model.specs.Reloading.{survived_now}
pub use Rattle.model.specs.declared.messages.Entry.{Entry}
pub use Rattle.model.specs.declared.messages.Holder.{Holder}
pub use Rattle.model.specs.declared.messages.Mark.TheVariants.{Held, Ready}
pub use Rattle.queue.specs.Blocks.{AreHeldOnce, AreBlocksSigned, AreFilled, AreFilledBut, AreJoined, AreKept, AreMarked, AreNeeded, AreWhole, HasRoom, IsBounded, IsCounted, IsFilled, IsHeld, IsNotSpent, IsPair, IsSpent, IsWhole, LastIsShort, NeedBoth, NeedBothAt, Stretch, block_at, is_in_use, is_long, joined, last_room, no_stretch, parts, ready_size, room_after, size_of, slots_of, some_pass, survived_block, total}
pub use Rattle.queue.specs.Line.{Line, ready_count, requeued}
pub use Rattle.queue.specs.Slots.{AreSetBy, AreSigned, BitTurned, BitsShow, HasPlaces, KeepsSize, SlotBits, changed, contents, num, slot_has, somes, tally}
pub use Rattle.queue.specs.declared.slots.Slot.{Slot}
pub use Rattle.std.proofs.Common.{Bool, List, None, Option, Some, [], ap, append-nil, append_assoc, arith, cond, drop, eqb, false, filter, find, get_or, inl, inr, is_some, length, map, refl, rules, subst, suc, sym, take, tests, true, vec_capacity, vec_len, zero, ℕ, ◌*◌, ◌++◌, ◌+◌, ◌-◌, ◌<◌, ◌∙◌, ◌∷◌, ◌≡◌, ◌≤◌}
pub use Rattle.std.proofs.lemmas.Bool.{false≢true, le-ltb, leb-true, ltb-false}
pub use Rattle.std.proofs.lemmas.Bool.Decides.{eqb_tells, leb_tells}
pub use Rattle.std.proofs.lemmas.Fn.{filter_same}
pub use Rattle.std.proofs.lemmas.List.{drop_all, drop_more, get_or-map, get_or-set_other, get_or-set_same, get_or_append_left, get_or_default, get_or_past, get_or_push, length-append, length-map, length-set, map-append, map-set, set-get_or, take_at}
pub use Rattle.std.specs.Global.{Vec}
pub use Rattle.std.specs.List.{position_from, remove, sum_by}
pub use Rattle.std.specs.Prelude.{All, IfNone, IfOk, IfSome, OnErr, max, nat_lt, option_map, ◌&&◌, ◌==◌, ◌||◌, ◌⊎◌}
pub use Rattle.std.specs.Vec.Iter.{into_iter_items, into_iter_len}
