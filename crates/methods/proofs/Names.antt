-- The names that several files of these proofs use.
pub use Rattle.field_table.specs.Arguments.{arguments_at, kind_of}
pub use Rattle.methods.specs.Pieces.{given, onto_arguments, piece_seen}
pub use Rattle.methods.specs.declared.pieces.Pieces.{Pieces}
pub use Rattle.model.specs.Grammar.{Argument, Bits, Field_table, Ids, IsArgument, IsMethod, Long, Long_long, Long_text, Octet, SaysMethod, Short, Short_text, Spells, any_rest, argument, arguments, bad_arguments, class_at, exact, ids, ids_of, is_known, is_left_out, is_unread, left_out, method_at, method_bytes, said, too_short, unknown}
pub use Rattle.model.specs.declared.methods.Method.{Method}
pub use Rattle.model.specs.declared.methods.Method.TheVariants.{BasicAck, BasicCancel, BasicCancelOk, BasicConsume, BasicConsumeOk, BasicDeliver, BasicGet, BasicGetEmpty, BasicGetOk, BasicNack, BasicPublish, BasicQos, BasicQosOk, BasicRecover, BasicRecoverOk, BasicReject, BasicReturn, ChannelClose, ChannelCloseOk, ChannelFlow, ChannelFlowOk, ChannelOpen, ChannelOpenOk, ConfirmSelect, ConfirmSelectOk, ConnectionClose, ConnectionCloseOk, ConnectionOpen, ConnectionOpenOk, ConnectionStart, ConnectionStartOk, ConnectionTune, ConnectionTuneOk, ExchangeBind, ExchangeDeclare, ExchangeDeclareOk, ExchangeDelete, ExchangeUnbind, QueueBind, QueueDeclare, QueueDeclareOk, QueueDelete, QueuePurge, QueuePurgeOk, QueueUnbind}
pub use Rattle.std.proofs.Common.{Bool, Err, List, Ok, Result, [], ap, append-nil, append_assoc, arith, drop, false, inl, inr, length, map, refl, subst, sym, true, ℕ, ◌++◌, ◌<◌, ◌^◌, ◌∙◌, ◌∷◌, ◌≡◌, ◌≤◌, ◌⊎◌}
pub use Rattle.std.specs.Int.{to_be_bytes, w16}
pub use Rattle.std.specs.List.{AllByRecursion, flat_map}
pub use Rattle.std.specs.Prelude.{None, if◌then◌else◌, ◌&&◌, ◌==◌, ◌||◌}
