-- `read_graph`: room, lines and the graph's own refusals, one after the other. Assumes nothing.
use Rattle.std.proofs.Common.{arith, sym, length, length-take-le}
use Rattle.std.proofs.lemmas.Result.{err_from_is_err_and}
use Rattle.stg.proofs.Replied.{no_fit, sized, told_lines, told_check, told_read}
use Rattle.stg.proofs.read_graph.Goals as goal

pub returns-in_err-check_room : goal.returns-in_err-check_room
returns-in_err-check_room c =
    let p = err_from_is_err_and c.from_residual.result c.from_residual.ensures.1 in
    rw (p.1, p.2) (no_fit (length c.args.times.now) (length c.args.arrows.now) c.args.text.now _ c.in_err-check_room.ensures)

pub returns-in_err-size : goal.returns-in_err-size
returns-in_err-size c =
    let p = err_from_is_err_and c.from_residual-in_err-size.result c.from_residual-in_err-size.ensures.1 in
    rw (p.1, p.2) (told_lines c.args.text.now c.args.times.now c.args.arrows.now _ _ c.in_ok-check_room.ensures _ c.in_err-size.ensures)

pub slice_bounds-check_read-end : goal.slice_bounds-check_read-end
slice_bounds-check_read-end c =
    let fits = c.in_ok-check_room.ensures in
    let s = sized c.args.text.now c.args.times.now c.args.arrows.now _ _ fits _ c.in_ok-size.ensures in
    omega (arith, s.high, fits.0)

pub slice_bounds-check_read-end-2 : goal.slice_bounds-check_read-end-2
slice_bounds-check_read-end-2 c =
    let fits = c.in_ok-check_room.ensures in
    let s = sized c.args.text.now c.args.times.now c.args.arrows.now _ _ fits _ c.in_ok-size.ensures in
    sym (length-take-le _ _ (omega (arith, s.high, fits.0)))

pub check_read-requires : goal.check_read-requires
check_read-requires c =
    let fits = c.in_ok-check_room.ensures in
    let s = sized c.args.text.now c.args.times.now c.args.arrows.now _ _ fits _ c.in_ok-size.ensures in
    let long = length-take-le c.in_ok-size.size.subtasks c.read_lines.new.times (omega (arith, s.high, fits.0)) in
    (record { low = omega (arith, long, s.low); high = omega (arith, long, s.high) }, omega (arith, fits.1))

pub returns-in_err-check_read : goal.returns-in_err-check_read
returns-in_err-check_read c =
    let p = err_from_is_err_and c.from_residual-in_err-check_read.result c.from_residual-in_err-check_read.ensures.1 in
    rw (p.1, p.2) (told_check c.args.text.now c.args.times.now c.args.arrows.now _ _ c.in_ok-check_room.ensures _ c.in_ok-size.ensures _ c.in_err-check_read.ensures)

pub returns : goal.returns
returns c =
    told_read c.args.text.now c.args.times.now c.args.arrows.now _ _ c.in_ok-check_room.ensures _ c.in_ok-size.ensures c.in_ok-check_read.ensures
