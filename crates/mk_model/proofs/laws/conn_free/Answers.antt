use Rattle.mk_model.proofs.Connections.{free_column_leaves}
use Rattle.mk_model.proofs.laws.conn_free.Goals as goal

pub returns : goal.returns
returns c lattice columns i moves u g in_lattice member supported positive connected =
    free_column_leaves g moves in_lattice u member columns supported i positive connected
