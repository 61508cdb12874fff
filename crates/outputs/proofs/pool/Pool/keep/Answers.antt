use Rattle.std.proofs.Common.{rules, ◌≤◌, sym, subst}
use Rattle.std.specs.Prelude.{vec_capacity, vec_len}
use Rattle.std.specs.List.{AllByRecursion}
use Rattle.outputs.specs.Storages.{HasBytes, Pooled, Storage, storage_of}
use Rattle.outputs.proofs.Filling.{sizes_more}
use Rattle.outputs.proofs.pool.Pool.keep.Goals as goal

pub invariant_of-self-2 : goal.invariant_of-self-2
invariant_of-self-2 c =
    let bytes = storage_of c.self.inside.kind in
    let most : vec_len c.push_reserved.new.self ≤ 256 = search rules in
    let room : 256 ≤ vec_capacity c.push_reserved.new.self = search rules in
    let came : bytes ≤ vec_capacity c.args.storage = subst (λ (p : Pooled). storage_of p.kind ≤ vec_capacity c.args.storage) (sym c.self.view_is) c.requires in
    let size : bytes ≤ c.new.result.bytes = subst (λ (s : Storage). bytes ≤ s.bytes) (sym c.new.ensures) came in
    let sizes = sizes_more bytes c.free_unused.new.all.items c.new.result (c.free_unused.ensures.sizes bytes c.self.invariant.2) size in
    (most, room, subst (AllByRecursion (HasBytes bytes)) (sym c.push_reserved.ensures.items) sizes)
