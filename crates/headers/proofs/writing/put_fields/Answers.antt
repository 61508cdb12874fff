-- What is put is the header, part by part.
use Rattle.headers.proofs.Names.{arith}
use Rattle.headers.proofs.Laid.{front_fits, back_fits, header_len, put_parts}
use Rattle.headers.proofs.writing.put_fields.Goals as goal

pub put_fixed-requires : goal.put_fixed-requires
put_fixed-requires c = let len = header_len c.args.size c.args.fields.now in let room = c.requires.room in omega (arith, len, room)

pub put_front-requires-clause-fits : goal.put_front-requires-clause-fits
put_front-requires-clause-fits c = front_fits c.args.fields.now c.requires.spelled

pub put_front-requires-clause-room : goal.put_front-requires-clause-room
put_front-requires-clause-room c =
    let len = header_len c.args.size c.args.fields.now in let room = c.requires.room in
    omega (arith, len, room, c.put_fixed.ensures.len, c.put_fixed.ensures.capacity)

pub put_back-requires-clause-fits : goal.put_back-requires-clause-fits
put_back-requires-clause-fits c = back_fits c.args.fields.now c.requires.spelled

pub put_back-requires-clause-room : goal.put_back-requires-clause-room
put_back-requires-clause-room c =
    let len = header_len c.args.size c.args.fields.now in let room = c.requires.room in
    omega (arith, len, room, c.put_fixed.ensures.len, c.put_fixed.ensures.capacity, c.put_front.ensures.len, c.put_front.ensures.capacity)

pub returns-clause-items : goal.returns-clause-items
returns-clause-items c =
    put_parts c.args.out.now.items c.put_fixed.new.out.items c.put_front.new.out.items c.put_back.new.out.items c.args.size c.front_flags.result c.back_flags.result c.args.fields.now
    c.put_fixed.ensures.items c.front_flags.ensures.is c.back_flags.ensures.is c.put_front.ensures.items c.put_back.ensures.items

pub returns-clause-len : goal.returns-clause-len
returns-clause-len c =
    let len = header_len c.args.size c.args.fields.now in
    omega (arith, len, c.put_fixed.ensures.len, c.put_front.ensures.len, c.put_back.ensures.len)
