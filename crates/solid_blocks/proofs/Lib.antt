-- Laws by which the regions of side 16 and 4 are proved.
mod HiddenLaws
mod InsideLaws
