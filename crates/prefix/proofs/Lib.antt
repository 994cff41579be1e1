mod LowBits
