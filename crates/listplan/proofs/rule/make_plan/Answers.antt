-- `make_plan`: the tables are made, and the row then holds the list plan. Assumes nothing.
use Rattle.listplan.specs.Making.{IsJob}
use Rattle.listplan.proofs.Beginning.{nothing_placed}
use Rattle.listplan.proofs.rule.make_plan.Goals as goal

pub follow_rule-requires : goal.follow_rule-requires
follow_rule-requires c =
    let job : IsJob c.args.times.now c.args.arrows.now c.args.order.now c.args.m _ _ _ =
    record {
      graph = c.requires.sound_graph;
      within = c.requires.among.0;
      is_order = c.requires.among.1;
      work = c.requires.among.2;
      chains = c.chain_arrows.ensures.chains;
      ranks = c.rank_subtasks.ensures.ranks;
    } in
    nothing_placed job c.chain_arrows.ensures.arrows_to c.rank_subtasks.ensures.sources (rw c.requires.whole at (c.fill.ensures.after (λ y h. h)))
