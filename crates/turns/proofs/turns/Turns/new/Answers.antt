use Rattle.std.proofs.Common.{refl}
use Rattle.turns.proofs.Seating.{has_none}
use Rattle.turns.specs.Voices.{is_asked, is_greedy, is_stranger, is_content, is_recent, is_silent}
use Rattle.turns.proofs.turns.Turns.new.Goals as goal

pub invariant_of-result : goal.invariant_of-result
invariant_of-result c =
    let voices = c.in_ok-voices.voices.items in
    let gone = c.in_ok-voices.ensures in
    record {
      asked = has_none c.in_ok-new.field-0 is_asked voices 4096 gone refl;
      greedy = has_none c.in_ok-new-2.field-0.members is_greedy voices 4096 gone refl;
      strangers = has_none c.in_ok-new-3.field-0.members is_stranger voices 4096 gone refl;
      contents = has_none c.in_ok-new-4.field-0.members is_content voices 4096 gone refl;
      recent = has_none c.in_ok-new-5.field-0.members is_recent voices 4096 gone refl;
      silent = has_none c.in_ok-new-6.field-0.members is_silent voices 4096 gone refl;
    }
