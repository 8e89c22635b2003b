use Rattle.std.proofs.Common.{◌≡◌, sym, ◌∙◌, rules, tests}
use Rattle.std.proofs.lemmas.Iterator.Adapters.{option_map_id}
use Rattle.std.proofs.lemmas.Iterator.Consumers.{min_from_yields_List, YieldsList-from_filter_map, YieldsList-from_rest, YieldsList-at}
use Rattle.txn_buffer.specs.Buffer.{first_position}
use Rattle.txn_buffer.proofs.Firsts.{least_in, none_in_flight, least_in_flight}
use Rattle.txn_buffer.proofs.buffer.Buffer.first.Goals as goal

-- the answer is the least position among the first changes
least_is : (c : goal.After-min) → c.min.result ≡ least_in c.args.self.now
least_is c =
    sym (option_map_id c.min.result)
    ∙ min_from_yields_List c.filter_map.result c.min.result c.min.ensures.ran
    (YieldsList-from_filter_map _ (λ e. first_position e.1) (YieldsList-at c.filter_map.ensures.source (YieldsList-from_rest c.args.self.now.map.entries c.iter.ensures.rest)) c.filter_map.ensures.closure (λ x r q k. search (rules, tests)))

pub returns-clause-none : goal.returns-clause-none
returns-clause-none c none = none_in_flight c.args.self.now (sym (least_is c) ∙ none)

pub returns-clause-least : goal.returns-clause-least
returns-clause-least c = least_in_flight c.args.self.now c.min.result (least_is c) c.iter.ensures.found
