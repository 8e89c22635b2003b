use Rattle.std.proofs.Common.{Err, ap, refl, Some}
use Rattle.load_laws.specs.laws.Read.{reads_whole}
use Rattle.run_commands.specs.load.LoadEvents.{load_text_events}
use Rattle.run_commands.specs.parts.laws.Composing.{no_memory, part_as, part_refused}
use Rattle.run_commands.proofs.LoadEvents.{read_events, unread_events}
use Rattle.run_commands.proofs.load.loading.load_text.Goals as goal

pub returns-in_default : goal.returns-in_default
returns-in_default g c = rw c.in_default.is (part_refused (λ refused. refused) c.requires refl c.refuse.ensures)

pub load_raw-requires-clause-raw : goal.load_raw-requires-clause-raw
load_raw-requires-clause-raw g c = reads_whole c.in-Some.text c.in-Ok.raw (rw c.as_slice.ensures at c.in-Ok.ensures.ok)

pub returns-in-Ok : goal.returns-in-Ok
returns-in-Ok g c =
    let text = c.in-Some.text in
    let raw = c.in-Ok.raw in
    let read = rw c.as_slice.ensures at c.in-Ok.ensures.ok in
    rw c.in-Some.is (part_as (load_text_events (Some text)) (λ w stands. read_events text raw read w) c.load_raw.ensures)

pub returns-in-Err-Memory : goal.returns-in-Err-Memory
returns-in-Err-Memory g c = no_memory (load_text_events c.args.text.now) c.requires

pub returns-in-Err-Broken : goal.returns-in-Err-Broken
returns-in-Err-Broken g c =
    let text = c.in-Some.text in
    let none = (rw c.as_slice.ensures at (c.in-Err-Broken.ensures.refused c.in-Err-Broken.field-0-0 c.in-Err-Broken.field-0-1 (ap Err c.in-Err-Broken.field-0-is))).2 in
    rw c.in-Some.is (part_as (load_text_events (Some text)) (λ w stands. unread_events text c.bad_text.result c.bad_text.ensures none w) (part_refused (λ refused. refused) c.requires refl c.refuse-in-Err-Broken.ensures))
