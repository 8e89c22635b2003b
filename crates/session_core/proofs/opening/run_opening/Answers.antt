use Rattle.session_core.proofs.opening.run_opening.Goals as goal

pub returns-in-Copy : goal.returns-in-Copy
returns-in-Copy g c = rw c.in-Copy.is c.copy_items.ensures

pub returns-in-Servers : goal.returns-in-Servers
returns-in-Servers g c = rw c.in-Servers.is c.run_script.ensures
