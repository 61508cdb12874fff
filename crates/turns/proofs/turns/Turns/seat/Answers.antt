use Rattle.std.proofs.Common.{◌≡◌, ◌<◌, ◌∙◌, length, arith}
use Rattle.turns.proofs.Seating.{has_all_after}
use Rattle.turns.specs.Voices.{is_asked, is_greedy, is_stranger, is_content, is_recent, is_silent}
use Rattle.turns.proofs.turns.Turns.seat.Goals as goal

pub invariant_of-self : goal.invariant_of-self
invariant_of-self c =
    let old = c.self.inside in
    let voices = old.voices.items in
    let i = c.args.index in
    let v = c.args.voice in
    let len : c.len.result ≡ length voices = c.len.ensures ∙ old.voices.ok.0 in
    let not_past = c.if-index-len.false in
    let few = c.if-index-ge-PLACES.false in
    let there : i < length voices = omega (arith, not_past, len) in
    let below : i < 4096 = omega (arith, few) in
    let was = c.self.invariant in
    record {
      asked = has_all_after old.speaking c.put.new.self is_asked voices i v c.is_asked.result there c.is_asked.ensures (c.put.ensures below) was.asked;
      greedy = has_all_after old.greedy.members c.put-2.new.self.members is_greedy voices i v c.is_greedy.result there c.is_greedy.ensures (c.put-2.ensures below) was.greedy;
      strangers = has_all_after old.strangers.members c.put-3.new.self.members is_stranger voices i v c.is_stranger.result there c.is_stranger.ensures (c.put-3.ensures below) was.strangers;
      contents = has_all_after old.contents.members c.put-4.new.self.members is_content voices i v c.is_content.result there c.is_content.ensures (c.put-4.ensures below) was.contents;
      recent = has_all_after old.recent.members c.put-5.new.self.members is_recent voices i v c.is_recent.result there c.is_recent.ensures (c.put-5.ensures below) was.recent;
      silent = has_all_after old.silent.members c.put-6.new.self.members is_silent voices i v c.is_silent.result there c.is_silent.ensures (c.put-6.ensures below) was.silent;
    }
