mod WholeInput
