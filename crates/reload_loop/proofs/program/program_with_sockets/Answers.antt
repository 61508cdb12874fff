use Rattle.reload_loop.proofs.Imports.{Option, Some, None, Bor, ap, refl, ◌∙◌, Text, asks_same, memory_reported, asked_by, names_in, without, serves, reloads}
use Rattle.server.specs.Stated.{file_named}
use Rattle.server.proofs.Beginning.{serve_ends}
use Rattle.server.proofs.Outcomes.{untouched, shows}
use Rattle.reload_loop.proofs.Reloading.{not_to_serve, reload_ends}
use Rattle.reload_loop.proofs.program.program_with_sockets.Goals as goal

pub returns-in-Err : goal.returns-in-Err
returns-in-Err g c =
    rw c.without_clients.ensures
    (without (shows _ _ _ _ _ c.in-Err.error _ c.in-Err.ensures (untouched _) (λ name. refl) c.refuse_words.ensures) refl (λ names listen turns every asks. memory_reported _ c.in-Err.error _ _ _ c.in-Err.ensures c.refuse_words.ensures asks))

pub returns-in-None : goal.returns-in-None
returns-in-None g c =
    rw c.without_clients-in-None.ensures
    (without (c.answer_asked.ensures _ c.in-Ok.ensures) refl (λ names listen turns every serving. absurd (not_to_serve _ _ names listen turns every c.in-Ok.ensures (c.in-None.ensures.none refl) serving)))

pub returns-in-Some-every : goal.returns-in-Some-every
returns-in-Some-every g c =
    let a = c.in-Some.asked.arguments in
    reloads (names_in a) a.listen.now c.in-Some-every.every.now (file_named a.turns)
    (asks_same _ _ (asked_by a (Some c.in-Some-every.every.now)) (c.in-Some.ensures.some ∙ ap (λ (e : Option (Bor Text)). asked_by a (file_named e)) c.in-Some-every.is) c.in-Ok.ensures)
    c.serve_reloading.ensures.files (reload_ends _ _ _ _ _ _ _ _ _ _ _ _ c.serve_reloading.ensures.no c.serve_reloading.ensures.yes)

pub returns-in-None-every : goal.returns-in-None-every
returns-in-None-every g c =
    let a = c.in-Some.asked.arguments in
    serves (names_in a) a.listen.now (file_named a.turns)
    (asks_same _ _ (asked_by a None) (c.in-Some.ensures.some ∙ ap (λ (e : Option (Bor Text)). asked_by a (file_named e)) c.in-None-every.is) c.in-Ok.ensures)
    c.serve_clients.ensures.files (serve_ends _ _ _ _ _ _ _ _ _ _ _ _ c.serve_clients.ensures.none c.serve_clients.ensures.some)
