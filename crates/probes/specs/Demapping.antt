-- What `probe_demap` and `probe_decide` are asked for.
use Rattle.dsp.specs.Arithmetic.{complex}
use Rattle.demap.specs.declared.metrics.Cell.{Cell}
use Rattle.probes.specs.declared.likelihoods.FlatCell.{FlatCell}

abbrev pub cell_of : FlatCell → Cell
cell_of r = record { y = complex r.y_re r.y_im; h = complex r.h_re r.h_im; mse = r.mse; sigma2 = r.sigma2 }
