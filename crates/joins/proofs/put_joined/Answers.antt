-- `put_joined`: the times and the arrows of the joined graph, put down. Assumes nothing.
use Rattle.joins.proofs.Joining.{first_moves, second_moves, first_room, second_room, arrows_put}
use Rattle.joins.proofs.Putting.{numbers_put}
use Rattle.joins.proofs.put_joined.Goals as goal

pub put_graph-behind-requires : goal.put_graph-behind-requires
put_graph-behind-requires c = record { accepted = (c.requires.joinable.first, first_moves c.requires.joinable); room = first_room c.requires.joinable c.args.arrows.now c.requires.room_for_arrows }

pub put_graph-requires : goal.put_graph-requires
put_graph-requires c = record { accepted = (c.requires.joinable.second, second_moves c.requires.joinable); room = second_room c.requires.joinable c.args.arrows.now c.requires.room_for_arrows c.put_graph-behind.ensures }

pub returns-clause-times_after : goal.returns-clause-times_after
returns-clause-times_after c = numbers_put c.args.first.times.now c.args.second.times.now c.args.times.now c.requires.room c.put_numbers.ensures c.put_numbers-2.ensures

pub returns-clause-arrows_after : goal.returns-clause-arrows_after
returns-clause-arrows_after c = arrows_put c.requires.joinable c.put_graph-behind.ensures c.put_graph.ensures
